-- The loop of `each`: ok, and what the characters from the index on say, is what all say. Assumes nothing.
use Rattle.std.proofs.Common.{◌≡◌, ℕ, ◌<◌, Bool, ◌&&◌, drop}
use Rattle.conversion.specs.Conversion.{each}
use Rattle.conversion.proofs.each.Given as goal

abbrev pub invariant-loop-c : goal.invariant-loop-c
invariant-loop-c g l =
    (p : ℕ → Bool) → ((c : ℕ) (r : Bool) → c < 256 → goal.F-post g l.test c r → r ≡ p c) → (l.ok && each p (drop l.c-index l.s)) ≡ each p l.s
