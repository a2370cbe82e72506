-- The loop of `characters`: the characters of i bits are there. Assumes nothing.
use lib.ListN.{get_or, drop}
use Rattle.octets.specs.Filled.{Filled}
use Rattle.wiegand.specs.Wiegand.{character}
use Rattle.wiegand.proofs.characters.Given as goal

abbrev pub invariant-loop-i : goal.invariant-loop-i
invariant-loop-i l = Filled (λ k. character (get_or (drop 6 l.bits) k 0)) l.initial.text l.text l.i
