-- `mix_each` meets its contract: what is left, mixed into the sum now, is the whole, mixed into the first. Assumes nothing.
use Rattle.std.proofs.Common.{◌≡◌}
use lib.ListN.{drop}
use Rattle.work.specs.Steps.{mixed_all}
use Rattle.work.proofs.mix_each.Given as goal

abbrev pub invariant-loop-b : goal.invariant-loop-b
invariant-loop-b l = mixed_all l.sum (drop l.b-index l.bytes) ≡ mixed_all l.s l.bytes
