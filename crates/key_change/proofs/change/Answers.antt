-- `key_change::change` meets its contract: what it calls finds the fault, and with no fault, what that shows is what the copies ask. Assumes nothing.
use Rattle.std.proofs.Common.{◌≡◌, false, length, get_or, sym, ◌∙◌, rules, arith}
use Rattle.plaid_types.specs.Keys.{key_length_of}
use Rattle.plaid_types.specs.KeyLaws.{lawful-one}
use Rattle.load.specs.Load.{past_set}
use Rattle.load.proofs.Laws.{sets-right, key-within, set-right}
use Rattle.refusals.specs.Laws.{number-some}
use Rattle.key_change.specs.KeyChange.{change_refusal}
use Rattle.key_change.proofs.Laws.{number-found, change-made, change-refused}
use Rattle.key_change.proofs.change.Goals as goal

pub returns-in-Err : goal.returns-in-Err
returns-in-Err c =
    let a = c.args in
    let e = c.number.ensures ∙ number-found a.card a.sets a.n c.lawful-l.ensures c.in-Err.ensures in
    let s = number-some c.in-Err.refusal in
    rw e (sym (change-refused a.card a.sets a.n (λ z. omega (arith, e, c.number.ensures, z))))

pub set_slots-requires : goal.set_slots-requires
set_slots-requires c =
    let a = c.args in
    let e : change_refusal a.card a.sets a.n ≡ 0 = sym (number-found a.card a.sets a.n c.lawful-l.ensures c.in-Ok.ensures) in
    let k = sets-right (key_length_of a.card) a.sets a.n false a.card.shill_handle e in
    let g : length a.sets ≡ 8 = search rules in
    (k.sets-most, λ i h. key-within (key_length_of a.card) (get_or a.sets i past_set).fa_key (lawful-one a.card.key_length) (set-right k i h (omega (arith, k.sets-most))))

pub returns-in-Ok : goal.returns-in-Ok
returns-in-Ok c =
    let a = c.args in
    let e : change_refusal a.card a.sets a.n ≡ 0 = sym (number-found a.card a.sets a.n c.lawful-l.ensures c.in-Ok.ensures) in
    rw (c.with_sets.ensures, c.set_slots.ensures) (sym (change-made a.card a.sets a.n e))
