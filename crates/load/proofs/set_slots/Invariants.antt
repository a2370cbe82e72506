-- `set_slots`: the first slots are filled. Assumes nothing.
use Rattle.std.proofs.Common.{◌≡◌, take}
use Rattle.load.specs.Load.{table_of}
use Rattle.load.proofs.set_slots.Given as goal

abbrev pub invariant-loop-i : goal.invariant-loop-i
invariant-loop-i l = l.slots ≡ table_of (take l.i l.k-items)
