-- FIPS 197, section 4.3: multiplication of words by a fixed matrix.
use Rattle.std.specs.Prelude.{ℕ}
use Rattle.std.specs.Int.Bits.{bit_xor}
use Rattle.field.specs.Field.{mul}

-- one row of the matrix, (a₀ a₁ a₂ a₃), times the word [b₀, b₁, b₂, b₃]. Each further row of the matrix is the one before it
-- turned one place to the right, so row r is row 0 applied to the word turned r places to the left.
unfoldable pub row_times : ℕ → ℕ → ℕ → ℕ → ℕ → ℕ → ℕ → ℕ → ℕ
row_times a₀ a₁ a₂ a₃ b₀ b₁ b₂ b₃ = bit_xor (mul a₀ b₀) (bit_xor (mul a₁ b₁) (bit_xor (mul a₂ b₂) (mul a₃ b₃)))
