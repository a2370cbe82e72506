-- `repeats`: what is left to look at is the whole. Assumes nothing.
use Rattle.std.proofs.Common.{◌≡◌, drop}
use Rattle.load.specs.Load.{repeated}
use Rattle.load.proofs.repeats.Given as goal

abbrev pub invariant-loop-i : goal.invariant-loop-i
invariant-loop-i l = repeated (drop l.i l.ids) ≡ repeated l.ids
