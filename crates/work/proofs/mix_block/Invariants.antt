-- `mix_block` meets its contract: the weights are those of Weights, and the loop takes the bytes in by them. Assumes nothing.
use Rattle.std.proofs.Common.{◌≡◌, ◌+◌, ◌*◌, ◌^◌, ◌≤◌}
use lib.ListN.{drop}
use Rattle.work.specs.Weights.{weighed}
use Rattle.work.proofs.mix_block.Given as goal

abbrev pub invariant-loop-i : goal.invariant-loop-i
invariant-loop-i l =
    (l.sum + weighed (drop l.i l.fn.b) ≡ 813174785 * l.s + 506492944 + weighed l.fn.b)
    × (l.sum ≤ 813174785 * l.s + 506492944 + l.i * 2 ^ 40)
