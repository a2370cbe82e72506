-- A byte is a number below 256, and a block is sixteen bytes (FIPS 197, section 3.2).
use Rattle.std.specs.Prelude.{◌≡◌, Bool, true, false, ◌&&◌, List, [], ◌∷◌, ℕ, ◌<◌, length, get_or, eqb}
use Rattle.std.specs.Int.Bits.{bit_xor}
use Rattle.octets.specs.Lists.{table}

-- each element is a byte
abbrev pub Bytes : List ℕ → Type 0
Bytes s = (i : ℕ) → get_or s i 0 < 256

pub record Block (s : List ℕ) : Type 0 where
  pub long : length s ≡ 16
  pub byte : Bytes s

-- the exclusive or of two blocks, byte by byte
abbrev pub block_xor : List ℕ → List ℕ → List ℕ
block_xor a b = table (λ i. bit_xor (get_or a i 0) (get_or b i 0)) 16 0

-- two lists of bytes are equal
abbrev pub same : List ℕ → List ℕ → Bool
same [] [] = true
same [] (y ∷ ys) = false
same (x ∷ xs) [] = false
same (x ∷ xs) (y ∷ ys) = eqb x y && same xs ys
