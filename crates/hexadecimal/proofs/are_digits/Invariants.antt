-- The loop of `are_digits`: ok, and what the characters from the index on say, is what all say. Assumes nothing.
use Rattle.std.proofs.Common.{◌≡◌, ◌&&◌, drop}
use Rattle.conversion.specs.Conversion.{each}
use Rattle.hexadecimal.specs.Hexadecimal.{is_digit}
use Rattle.hexadecimal.proofs.are_digits.Given as goal

abbrev pub invariant-loop-c : goal.invariant-loop-c
invariant-loop-c l = (l.ok && each is_digit (drop l.c-index l.s)) ≡ each is_digit l.s
