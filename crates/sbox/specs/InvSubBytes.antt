-- FIPS 197, section 5.3.2: the table INVSBOX, the inverse of SBOX.
use Rattle.std.specs.Prelude.{ℕ, ◌+◌, ◌%◌}
use Rattle.std.specs.Int.Bits.{bit_xor}
use Rattle.field.specs.Field.{inverse}
use Rattle.sbox.specs.SubBytes.{bit, from_bits}

-- the inverse of the affine transformation: b'(i) = b((i + 2) mod 8) ⊕ b((i + 5) mod 8) ⊕ b((i + 7) mod 8) ⊕ d(i), where d is the byte {05}
abbrev pub inv_affine : ℕ → ℕ
inv_affine b = from_bits (λ i. bit_xor (bit b ((i + 2) % 8)) (bit_xor (bit b ((i + 5) % 8)) (bit_xor (bit b ((i + 7) % 8)) (bit 5 i)))) 8

-- "the inverse of the affine transformation followed by the multiplicative inverse". That this is SBOX turned round,
-- as section 5.3.2 has it, is `inv-of-sbox` and `sbox-of-inv` of `Rule`.
unfoldable pub inv_sbox : ℕ → ℕ
inv_sbox b = inverse (inv_affine b)
