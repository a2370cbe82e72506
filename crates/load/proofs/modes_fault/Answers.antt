-- `modes_fault` meets its contract, by its tests. Assumes nothing.
use Rattle.std.proofs.Common.{rules, arith}
use Rattle.std.proofs.lemmas.Bool.Decides.{nat_tests}
use Rattle.plaid_types.specs.declared.Mode.{Mode}
use Rattle.load.specs.Load.{past_mode, modes_refusal}
use Rattle.load.proofs.Turns.{given-ids}
use Rattle.load.proofs.modes_fault.Goals as goal

pub returns-then-n-eq0 : goal.returns-then-n-eq0
unfolding modes_refusal
returns-then-n-eq0 c = grind (arith, nat_tests)

pub returns-then-repeats : goal.returns-then-repeats
unfolding modes_refusal
returns-then-repeats c =
    let k = given-ids _ (λ (m : Mode). m.id.0) _ _ _ past_mode _ c.map-ids.ensures.items (search rules) (λ x y p q e. search rules) c.repeats.ensures in
    grind (arith, nat_tests)

pub returns-then-area-gt-AREA : goal.returns-then-area-gt-AREA
unfolding modes_refusal
returns-then-area-gt-AREA c =
    let k = given-ids _ (λ (m : Mode). m.id.0) _ _ _ past_mode _ c.map-ids.ensures.items (search rules) (λ x y p q e. search rules) c.repeats.ensures in
    grind (arith, nat_tests)

pub returns : goal.returns
unfolding modes_refusal
returns c =
    let k = given-ids _ (λ (m : Mode). m.id.0) _ _ _ past_mode _ c.map-ids.ensures.items (search rules) (λ x y p q e. search rules) c.repeats.ensures in
    grind (arith, nat_tests)
