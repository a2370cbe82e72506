-- The loop of `bits_of_text`: the bits of i characters are found. Assumes nothing.
use lib.ListN.{get_or}
use Rattle.octets.specs.Filled.{Filled}
use Rattle.wiegand.specs.Wiegand.{bit_of}
use Rattle.wiegand.proofs.bits_of_text.Given as goal

abbrev pub invariant-loop-i : goal.invariant-loop-i
invariant-loop-i l = Filled (λ k. bit_of (get_or l.text k 0)) l.initial.low l.low l.i
