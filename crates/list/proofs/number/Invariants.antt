-- `list::number` meets its contract. The loop's invariant: v is the number in the bytes before the index. Assumes nothing.
use mathlib.Core.Path.{◌≡◌}
use Prim.Native.Nat.{min}
use lib.ListN.{take}
use Rattle.list.specs.Ber.{unsigned}
use Rattle.list.specs.Laws.{largest}
use Rattle.list.proofs.number.Given as goal

abbrev pub invariant-loop-b : goal.invariant-loop-b
invariant-loop-b l = l.v ≡ min (unsigned (take l.b-index l.s)) largest
