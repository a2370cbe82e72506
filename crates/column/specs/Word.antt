-- T-03: "let column mixing, its inverse and key addition work a word at a time". A word is four bytes (FIPS 197, section 3.5), here a number
-- below 2^32 with byte 0 in its low bits. A column of the state is one, row 0 first.
use Rattle.std.specs.Prelude.{List, ℕ, zero, suc, ◌+◌, ◌*◌, ◌/◌, ◌%◌, set}
use Rattle.field.specs.Matrix.{row_times}

-- the word [a₀, a₁, a₂, a₃]
abbrev pub word : ℕ → ℕ → ℕ → ℕ → ℕ
word a₀ a₁ a₂ a₃ = ((a₃ * 256 + a₂) * 256 + a₁) * 256 + a₀

-- the word whose byte i is f i
abbrev pub word_of : (ℕ → ℕ) → ℕ
word_of f = word (f 0) (f 1) (f 2) (f 3)

-- byte i of a word
abbrev pub byte_at : ℕ → ℕ → ℕ
byte_at w zero = w % 256
byte_at w (suc i) = byte_at (w / 256) i

-- the four bytes of a word, written over l from place p on
abbrev pub put : List ℕ → ℕ → ℕ → List ℕ
put l p w = set (set (set (set l p (byte_at w 0)) (p + 1) (byte_at w 1)) (p + 2) (byte_at w 2)) (p + 3) (byte_at w 3)

-- a word turned n places: byte n comes first
abbrev pub turned : ℕ → ℕ → ℕ
turned n w = word_of (λ i. byte_at w ((i + n) % 4))

-- 4.3: a word times the matrix whose row 0 is (a₀ a₁ a₂ a₃) and whose row r is that, turned r places to the right
unfoldable pub word_times : ℕ → ℕ → ℕ → ℕ → ℕ → ℕ
word_times a₀ a₁ a₂ a₃ w = word_of (λ r. row_times a₀ a₁ a₂ a₃ (byte_at w r) (byte_at w ((r + 1) % 4)) (byte_at w ((r + 2) % 4)) (byte_at w ((r + 3) % 4)))
