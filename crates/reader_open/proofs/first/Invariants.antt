-- `first` meets its contract. The loop's invariant: what is found from place i on, with what was found before, is the winner (Turns).
-- Assumes nothing.
use mathlib.Core.Path.{◌≡◌}
use mathlib.Core.Bool.{cond}
use lib.Dec.{eqb}
use lib.ListN.{take, drop}
use Rattle.reader_open.specs.Open.{first_open, winner}
use Rattle.reader_open.proofs.first.Given as goal

abbrev pub invariant-loop-i : goal.invariant-loop-i
invariant-loop-i l = cond (eqb l.at l.n) (first_open l.l l.blocks l.i (drop l.i (take l.n l.fn.ids))) l.at ≡ winner l.l l.fn.ids l.n l.blocks
