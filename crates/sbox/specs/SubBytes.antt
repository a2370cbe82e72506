-- FIPS 197, section 5.1.1: the substitution table SBOX.
use Rattle.std.specs.Prelude.{◌≡◌, refl, ℕ, zero, suc, ◌+◌, ◌*◌, ◌/◌, ◌%◌, ◌^◌}
use Rattle.std.specs.Int.Bits.{bit_xor}
use Rattle.field.specs.Field.{inverse}

-- bᵢ, the bit of b at place i
abbrev pub bit : ℕ → ℕ → ℕ
bit b i = b / 2 ^ i % 2

-- the number whose bits are f 0 to f (n - 1)
abbrev pub from_bits : (ℕ → ℕ) → ℕ → ℕ
from_bits f zero = 0
from_bits f (suc n) = f n * 2 ^ n + from_bits f n

-- "b'(i) = b(i) ⊕ b((i + 4) mod 8) ⊕ b((i + 5) mod 8) ⊕ b((i + 6) mod 8) ⊕ b((i + 7) mod 8) ⊕ c(i)", where c is the byte {63}
abbrev pub affine : ℕ → ℕ
affine b =
    from_bits
    (λ i. bit_xor (bit b i) (bit_xor (bit b ((i + 4) % 8)) (bit_xor (bit b ((i + 5) % 8)) (bit_xor (bit b ((i + 6) % 8)) (bit_xor (bit b ((i + 7) % 8)) (bit 0x63 i))))))
    8

-- "1. the multiplicative inverse of b, {00} for {00}. 2. the affine transformation of its bits"
unfoldable pub sbox : ℕ → ℕ
sbox b = affine (inverse b)

-- 5.1.1's example: {53} is mapped to {ed}
example : sbox 0x53 ≡ 0xed
unfolding sbox
example = refl
