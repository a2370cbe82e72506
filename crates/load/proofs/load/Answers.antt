-- `load` meets its contract: what it calls finds the fault, and with no fault, what that shows is what the copies ask. Assumes nothing.
use Rattle.std.proofs.Common.{◌≡◌, sym, length, get_or, length-take, rules, arith}
use Rattle.load.specs.Load.{past_set, loaded_card}
use Rattle.load.proofs.Laws.{accepted, key-within, set-right, load-made, load-refused}
use Rattle.refusals.specs.Laws.{number-some}
use Rattle.load.proofs.load.Goals as goal

pub returns-in-Err : goal.returns-in-Err
returns-in-Err c =
    let a = c.args in
    let e = c.in-Err.ensures in
    let s = number-some c.in-Err.refusal in
    simp (c.blank.ensures, c.number.ensures, e)
    (sym (load-refused a.l a.sets a.n a.modes a.m a.area.now a.div_data a.shill_key a.shill_handle (λ z. omega arith)))

pub slice_bounds-modes-end : goal.slice_bounds-modes-end
slice_bounds-modes-end c =
    let a = c.args in
    let k = accepted a.l a.sets a.n a.modes a.m (length a.area.now) a.shill_key a.shill_handle (sym c.in-Ok.ensures) in
    let e : length a.modes ≡ 16 = search rules in
    omega (arith, k.modes-most)

pub slice_bounds-given-end : goal.slice_bounds-given-end
slice_bounds-given-end c =
    let a = c.args in
    let k = accepted a.l a.sets a.n a.modes a.m (length a.area.now) a.shill_key a.shill_handle (sym c.in-Ok.ensures) in
    let e : length a.modes ≡ 16 = search rules in
    omega (arith, k.modes-most, length-take a.m a.modes)

pub set_slots-requires : goal.set_slots-requires
set_slots-requires c =
    let a = c.args in
    let k = accepted a.l a.sets a.n a.modes a.m (length a.area.now) a.shill_key a.shill_handle (sym c.in-Ok.ensures) in
    let e : length a.sets ≡ 8 = search rules in
    (k.of-sets.sets-most, λ i h. key-within a.l (get_or a.sets i past_set).fa_key k.length-one (set-right k.of-sets i h (omega (arith, k.of-sets.sets-most))))

pub copied-requires : goal.copied-requires
copied-requires c =
    let a = c.args in
    (accepted a.l a.sets a.n a.modes a.m (length a.area.now) a.shill_key a.shill_handle (sym c.in-Ok.ensures)).area-most

pub wide-requires : goal.wide-requires
wide-requires c =
    let a = c.args in
    let k = accepted a.l a.sets a.n a.modes a.m (length a.area.now) a.shill_key a.shill_handle (sym c.in-Ok.ensures) in
    key-within a.l a.shill_key k.length-one k.key_right

pub returns-in-Ok : goal.returns-in-Ok
unfolding loaded_card
returns-in-Ok c =
    let a = c.args in
    simp (
      c.none-in-Ok.ensures,
      c.none.ensures,
      c.wide.ensures,
      c.copied.ensures,
      c.set_slots.ensures,
      c.mode_slots.ensures,
      c.largest_size.ensures,
    )
    (sym (load-made a.l a.sets a.n a.modes a.m a.area.now a.div_data a.shill_key a.shill_handle (sym c.in-Ok.ensures)))
