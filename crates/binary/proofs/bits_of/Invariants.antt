-- The loop of `bits_of`: the bits of i bytes are written (`bits-turn`). Assumes nothing.
use mathlib.Core.Path.{◌≡◌}
use lib.ListN.{length, take}
use Rattle.octets.specs.Lists.{over}
use Rattle.binary.specs.Binary.{bits_of}
use Rattle.binary.proofs.bits_of.Given as goal

abbrev pub invariant-loop-i : goal.invariant-loop-i
invariant-loop-i l = (length l.bits ≡ 32) × (l.bits ≡ over l.initial.bits 0 (bits_of (take l.i l.bytes)))
