-- Bytes and bits: a number's binary digits as a list, each 0 or 1, the high one first.
use Rattle.std.specs.Prelude.{List, [], ◌∷◌, ◌++◌, ℕ, zero, suc, ◌+◌, ◌*◌, ◌/◌, ◌%◌, ◌^◌, length}
use Rattle.octets.specs.Lists.{table, part}

-- the number with these binary digits
unfoldable pub value : List ℕ → ℕ
value [] = 0
value (b ∷ s) = b * 2 ^ length s + value s

-- a number's n lowest binary digits
unfoldable pub binary : ℕ → ℕ → List ℕ
binary zero v = []
binary (suc n) v = (v / 2 ^ n % 2) ∷ binary n v

-- n bytes of such digits, eight for each
abbrev pub bytes_of : ℕ → List ℕ → List ℕ
bytes_of n s = table (λ i. value (part s (8 * i) 8)) n 0

-- and the digits of bytes
unfoldable pub bits_of : List ℕ → List ℕ
bits_of [] = []
bits_of (b ∷ r) = binary 8 b ++ bits_of r
