-- `sha_block::full_schedule` meets its contract. The loops' invariants: the first 8 i + 16 words, and 8 i + j + 16, are
-- the schedule's. Assumes nothing.
use Rattle.std.proofs.Common.{◌≡◌, List, ℕ, ◌+◌, ◌*◌, length, take}
use Rattle.sha_padding.specs.Parsing.{block_words}
use Rattle.sha_block.specs.Hash.{schedule}
use Rattle.sha_block.proofs.full_schedule.Given as goal

-- the first n + 16 of the 64 words
pub record Grown (m w : List ℕ) (n : ℕ) : Type 0 where
  pub long : length w ≡ 64
  pub made : take (n + 16) w ≡ schedule m n

abbrev pub invariant-loop-i : goal.invariant-loop-i
invariant-loop-i l = Grown (block_words l.b) l.w (8 * l.i)

abbrev pub invariant-loop-j : goal.invariant-loop-j
invariant-loop-j l = Grown (block_words l.b) l.w (8 * l.i + l.j)
