-- `end_from` meets its contract. The loop keeps the end of the bytes passed, or where it started. Assumes nothing.
use Rattle.std.proofs.Common.{◌≡◌, ◌+◌, max}
use Rattle.padding.specs.Method2.{text_end}
use Rattle.padding.proofs.end_from.Given as goal

abbrev pub invariant-loop-i : goal.invariant-loop-i
invariant-loop-i l = l.end ≡ max l.start (text_end l.s (l.start + l.i))
