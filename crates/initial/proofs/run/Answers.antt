-- `initial::run` meets its contract: `accepted` and `refused` take what was found and what was written to the reply. Assumes nothing.
use mathlib.Core.Path.{◌≡◌}
use native.Mathlib.Omega.{arith}
use lib.ListN.{length}
use Rattle.octets.specs.Lists.{part-long}
use Rattle.plaid_types.specs.KeyLaws.{str1-most}
use Rattle.initial.proofs.Replies.{length-fits, accepted, refused}
use Rattle.std.proofs.Common.{rules}
use Rattle.initial.proofs.run.Goals as goal

pub head-requires : goal.head-requires
head-requires c = (length-fits _ c.lawful-l.ensures, search rules, search rules)

pub opened_of_length-requires : goal.opened_of_length-requires
opened_of_length-requires c = (length-fits _ c.lawful-l.ensures, search rules, search rules)

pub returns-then-at-lt-KEY_SETS : goal.returns-then-at-lt-KEY_SETS
returns-then-at-lt-KEY_SETS c =
    let a = c.args in
    let ld : length a.card.div_data ≡ 16 = search rules in
    let ls : length a.card.sets ≡ 8 = search rules in
    let all = accepted
    a.card
    a.d.now
    a.fresh.now
    c.requires.1
    ld
    c.lawful-l.ensures
    c.compare_places-f.ensures
    a.out.now
    _
    ls
    (omega (arith, c.if-at-lt-KEY_SETS.true))
    c.opened_of_length.ensures.value
    c.head.ensures
    c.opened_of_length.ensures.out_after in
    record { value = all.0; out_after = all.1 }

pub text_at-requires : goal.text_at-requires
text_at-requires c = length-fits _ c.lawful-l.ensures

pub str1_length-requires : goal.str1_length-requires
str1_length-requires c = length-fits _ c.lawful-l.ensures

pub part_of-requires : goal.part_of-requires
part_of-requires c = omega (arith, c.str1_length.ensures, str1-most _ (length-fits _ c.lawful-l.ensures), c.requires.1)

pub copy_at-requires : goal.copy_at-requires
copy_at-requires c =
    let h = str1-most _ (length-fits _ c.lawful-l.ensures) in
    let n = part-long _ _ _ (omega (arith, c.str1_length.ensures, c.requires.1)) c.part_of.ensures in
    omega (arith, c.str1_length.ensures, c.text_at.ensures, c.requires.2)

pub returns : goal.returns
returns c =
    let a = c.args in
    let ld : length a.card.div_data ≡ 16 = search rules in
    let all = refused
    a.card
    a.d.now
    a.fresh.now
    c.requires.1
    ld
    c.lawful-l.ensures
    c.compare_places-f.ensures
    a.out.now
    (omega (arith, c.if-at-lt-KEY_SETS.false))
    c.close-closed.ensures
    c.str1_length.ensures
    c.part_of.ensures
    c.text_at.ensures
    c.head.ensures
    c.copy_at.ensures in
    record { value = all.0; out_after = all.1 }
