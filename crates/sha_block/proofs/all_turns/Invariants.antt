-- `sha_block::all_turns` meets its contract. The loops' invariants: v is what 8 n turns, and what 8 n + j, made of h.
-- Assumes nothing.
use Rattle.std.proofs.Common.{◌≡◌, ◌+◌, ◌*◌}
use Rattle.sha_block.specs.Constants.{constants}
use Rattle.sha_block.specs.Hash.{turns}
use Rattle.sha_block.proofs.all_turns.Given as goal

abbrev pub invariant-loop-n : goal.invariant-loop-n
invariant-loop-n l = (l.k ≡ constants) × (l.v ≡ turns l.w l.fn.h (8 * l.n))

abbrev pub invariant-loop-j : goal.invariant-loop-j
invariant-loop-j l = (l.k ≡ constants) × (l.v ≡ turns l.w l.fn.h (8 * l.n + l.j))
