-- `key_expansion::long_rows` meets its contract: the rows below i are the round keys, and the words before row i are the schedule's. Assumes
-- nothing.
use Rattle.key_expansion.specs.Filling.{Made}
use Rattle.key_expansion.proofs.long_rows.Given as goal

abbrev pub invariant-loop-i : goal.invariant-loop-i
invariant-loop-i l = Made l.nk l.key l.initial.w l.w l.older l.newer l.j l.x l.i
