-- `key_expansion::short_rows` meets its contract: the rows below i are the round keys, and the words before row i are the schedule's.
-- Assumes nothing.
use Rattle.rounds.specs.Columns.{state_of}
use Rattle.key_expansion.specs.Filling.{Made}
use Rattle.key_expansion.proofs.short_rows.Given as goal

abbrev pub invariant-loop-i : goal.invariant-loop-i
invariant-loop-i l = Made 4 (state_of l.initial.newer) l.initial.w l.w l.newer l.newer 0 l.x l.i
