-- The loop of `shown`: the bytes before the index are written. Assumes nothing.
use Rattle.std.proofs.Common.{◌≡◌, ◌+◌, ◌*◌, ◌≤◌, ◌++◌, length, take}
use Rattle.printing.specs.Printing.{shown}
use Rattle.printing.proofs.Text.shown.Given as goal

abbrev pub invariant-loop-b : goal.invariant-loop-b
invariant-loop-b g l = (l.self ≡ l.initial.self ++ shown (take l.b-index l.bytes)) × (length l.self ≤ length l.initial.self + 4 * l.b-index)
