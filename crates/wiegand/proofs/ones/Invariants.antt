-- `ones`: what was counted, and what the rest has, is what all have. Assumes nothing.
use Rattle.std.proofs.Common.{◌≡◌, ◌+◌, ◌≤◌, drop}
use Rattle.wiegand.specs.Wiegand.{ones}
use Rattle.wiegand.proofs.ones.Given as goal

abbrev pub invariant-loop-b : goal.invariant-loop-b
invariant-loop-b l = (l.n ≤ l.b-index) × (l.n + ones (drop l.b-index l.s) ≡ ones l.s)
