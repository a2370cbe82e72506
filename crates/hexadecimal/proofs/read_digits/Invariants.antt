-- The loop of `read_digits`: i octets are written (Writes). Assumes nothing.
use mathlib.Core.Path.{◌≡◌}
use lib.ListN.{length}
use lib.Seq.{paste}
use Rattle.hexadecimal.specs.Hexadecimal.{octets_of}
use Rattle.hexadecimal.proofs.read_digits.Given as goal

abbrev pub invariant-loop-i : goal.invariant-loop-i
invariant-loop-i l = (length l.out ≡ length l.initial.out) × (l.out ≡ paste l.initial.out l.at (octets_of l.digits) l.i)
