-- `mix_all` meets its contract: what is left of the blocks, mixed into the sum now, is all of them, mixed into the first. Assumes nothing.
use Rattle.std.proofs.Common.{◌≡◌}
use mathlib.Core.List.{flatten}
use lib.ListN.{drop}
use Rattle.work.specs.Steps.{mixed_all}
use Rattle.work.proofs.mix_all.Given as goal

abbrev pub invariant-loop-block : goal.invariant-loop-block
invariant-loop-block l = mixed_all l.sum (flatten (drop l.block-index l.blocks)) ≡ mixed_all l.s (flatten l.blocks)
