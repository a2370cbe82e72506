-- `initial::compare_slots` meets its contract. The invariant is `SlotsDone`: what is left, with what was found so far, is all. Assumes nothing.
use mathlib.Core.Path.{ap}
use native.Mathlib.Omega.{arith}
use Rattle.initial.proofs.Slots.{slots-start, slots-turn, slots_end}
use Rattle.std.proofs.Common.{rules}
use Rattle.initial.proofs.compare_slots.Goals as goal

pub loop-i-init : goal.loop-i-init
loop-i-init c = slots-start _ _ _ _

pub overflow_add-count : goal.overflow_add-count
overflow_add-count c = omega (arith, ap (λ r. r.count) c.compare_sets-c.ensures, c.loop-i.invariant.few)

pub loop-i-preserved : goal.loop-i-preserved
loop-i-preserved c =
    slots-turn _ _ _ _ (search rules) (search rules) c.loop-i.invariant c.compare_sets-c.ensures
    c.keep-at.ensures

pub returns : goal.returns
returns c = slots_end _ _ _ (search rules) (search rules) c.loop-i.invariant
