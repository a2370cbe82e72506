-- `sets_fault` meets its contract: each answer is that of the tests that led there (Tests). Assumes nothing.
use Rattle.std.proofs.Common.{refl, sym, ◌∙◌, rules, arith}
use Rattle.std.proofs.lemmas.Bool.Decides.{nat_tests}
use Rattle.plaid_types.specs.declared.KeySet.{KeySet}
use Rattle.load.specs.Load.{past_set, wrong_keys, with_handle, sets_refusal}
use Rattle.load.proofs.Tests.{count_within, of_first, either_of, sets_told}
use Rattle.load.proofs.Turns.{given-ids}
use Rattle.load.proofs.sets_fault.Goals as goal

pub returns-then-n-eq0 : goal.returns-then-n-eq0
unfolding sets_refusal
returns-then-n-eq0 c = grind (arith, nat_tests)

pub returns-then-wrong : goal.returns-then-wrong
returns-then-wrong c =
    let a = c.args in
    let keys = of_first (wrong_keys a.l) a.sets a.n c.wrong_keys-keys.ensures (omega arith) in
    sets_told a.l a.sets a.n a.other a.handle
    (count_within 8 a.n c.if-n-eq0.false c.if-n-gt-KEY_SETS.false)
    (either_of a.other c.if-wrong.true keys)
    refl refl

pub returns-then-repeats : goal.returns-then-repeats
returns-then-repeats c =
    let a = c.args in
    let keys = of_first (wrong_keys a.l) a.sets a.n c.wrong_keys-keys.ensures (omega arith) in
    let ids = given-ids _ (λ (s : KeySet). s.id.0) _ _ _ past_set _ c.map-ids.ensures.items (search rules) (λ x y p q e. search rules) c.repeats.ensures in
    sets_told a.l a.sets a.n a.other a.handle
    (count_within 8 a.n c.if-n-eq0.false c.if-n-gt-KEY_SETS.false)
    (either_of a.other c.if-wrong.false keys)
    (sym ids ∙ c.if-repeats.true)
    refl

pub returns-then-with_handle : goal.returns-then-with_handle
returns-then-with_handle c =
    let a = c.args in
    let keys = of_first (wrong_keys a.l) a.sets a.n c.wrong_keys-keys.ensures (omega arith) in
    let ids = given-ids _ (λ (s : KeySet). s.id.0) _ _ _ past_set _ c.map-ids.ensures.items (search rules) (λ x y p q e. search rules) c.repeats.ensures in
    let handles = of_first (with_handle a.handle) a.sets a.n c.with_handle.ensures (omega arith) in
    sets_told a.l a.sets a.n a.other a.handle
    (count_within 8 a.n c.if-n-eq0.false c.if-n-gt-KEY_SETS.false)
    (either_of a.other c.if-wrong.false keys)
    (sym ids ∙ c.if-repeats.false)
    (sym handles ∙ c.if-with_handle.true)

pub returns : goal.returns
returns c =
    let a = c.args in
    let keys = of_first (wrong_keys a.l) a.sets a.n c.wrong_keys-keys.ensures (omega arith) in
    let ids = given-ids _ (λ (s : KeySet). s.id.0) _ _ _ past_set _ c.map-ids.ensures.items (search rules) (λ x y p q e. search rules) c.repeats.ensures in
    let handles = of_first (with_handle a.handle) a.sets a.n c.with_handle.ensures (omega arith) in
    sets_told a.l a.sets a.n a.other a.handle
    (count_within 8 a.n c.if-n-eq0.false c.if-n-gt-KEY_SETS.false)
    (either_of a.other c.if-wrong.false keys)
    (sym ids ∙ c.if-repeats.false)
    (sym handles ∙ c.if-with_handle.false)
