-- `weight_of` meets its contract: after k turns w is the weight that k bytes give. Assumes nothing.
use Rattle.std.proofs.Common.{◌≡◌}
use Rattle.work.specs.Weights.{weight}
use Rattle.work.proofs.weight_of.Given as goal

abbrev pub invariant-loop : goal.invariant-loop
invariant-loop l = l.w ≡ weight l.counter
