-- `mix_rows` meets its contract: what is left, mixed into the sum now, is the whole, mixed into the first. Assumes nothing.
use Rattle.std.proofs.Common.{◌≡◌}
use mathlib.Core.List.{flatten}
use lib.ListN.{drop}
use Rattle.work.specs.Steps.{mixed_all}
use Rattle.work.proofs.mix_rows.Given as goal

abbrev pub invariant-loop-row : goal.invariant-loop-row
invariant-loop-row l = mixed_all l.sum (flatten (drop l.row l.rows)) ≡ mixed_all l.s (flatten l.rows)
