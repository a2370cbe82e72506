-- `entries` meets its contract. The loop's invariant: i entries are written (Writes). Assumes nothing.
use mathlib.Core.Path.{◌≡◌}
use lib.ListN.{length, take}
use Rattle.octets.specs.Lists.{over}
use Rattle.list.specs.Encoding.{short_entries}
use Rattle.reader_list.proofs.entries.Given as goal

abbrev pub invariant-loop-i : goal.invariant-loop-i
invariant-loop-i l = (length l.out ≡ length l.initial.out) × (l.out ≡ over l.initial.out 7 (short_entries (take l.i l.ids)))
