-- The loop of `write_digits`: the digits of i octets are written (Writes). Assumes nothing.
use mathlib.Core.Path.{◌≡◌}
use lib.ListN.{length, take}
use Rattle.octets.specs.Lists.{over}
use Rattle.hexadecimal.specs.Hexadecimal.{digits_of}
use Rattle.hexadecimal.proofs.write_digits.Given as goal

abbrev pub invariant-loop-i : goal.invariant-loop-i
invariant-loop-i l = (length l.out ≡ length l.initial.out) × (l.out ≡ over l.initial.out l.at (digits_of (take l.i l.octets)))
