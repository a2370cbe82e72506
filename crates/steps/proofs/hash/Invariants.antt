-- `hash` meets its contract. The loop's laws are those of Turns. Assumes nothing.
use mathlib.Core.Path.{◌≡◌}
use Prim.Native.Nat.{◌-◌}
use Rattle.octets.specs.Lists.{table}
use Rattle.sha_padding.specs.Parsing.{blocks}
use Rattle.sha_block.specs.Hash.{state_after}
use Rattle.work.specs.Steps.{sum_from}
use Rattle.steps.specs.Made.{hash_step, hash_steps}
use Rattle.steps.proofs.hash.Given as goal

abbrev pub invariant-loop-i : goal.invariant-loop-i
invariant-loop-i l = (l.n ≡ blocks l.m) × (l.h ≡ state_after l.m l.i) × (sum_from l.s (table (hash_step l.m) (l.n - l.i) l.i) ≡ sum_from l.sum (hash_steps l.m))
