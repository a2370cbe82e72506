-- `initial::compare_slots` meets its contract. The invariant is `SlotsDone`: what is left, with what was found so far, is all. Assumes nothing.
use Rattle.initial.proofs.Slots.{SlotsDone}
use Rattle.initial.proofs.compare_slots.Given as goal

abbrev pub invariant-loop-i : goal.invariant-loop-i
invariant-loop-i l = SlotsDone l.present l.v l.fn.sets l.sum l.i l.at l.count l.s
