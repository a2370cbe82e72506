-- FIPS 197, sections 4.1, 4.2 and 4.4: a byte as an element of GF(2^8), here a number below 256.
use Rattle.std.specs.Prelude.{◌≡◌, refl, ℕ, zero, suc, ◌*◌, ◌/◌, ◌%◌}
use Rattle.std.specs.Int.Bits.{bit_xor}

-- 4.1: addition is the exclusive or of the bits, `bit_xor`

-- 4.2: XTIMES(b) is b times x modulo m(x) = x^8 + x^4 + x^3 + x + 1: the bits shifted left, and {1b} added where b₇ = 1
abbrev pub x_times : ℕ → ℕ
x_times b = bit_xor (b % 128 * 2) (b / 128 * 0x1b)

-- the sum of c times x^i over the i with bᵢ = 1, i below n
abbrev pub mul_digits : ℕ → ℕ → ℕ → ℕ
mul_digits zero b c = 0
mul_digits (suc n) b c = bit_xor (b % 2 * c) (mul_digits n (b / 2) (x_times c))

-- 4.2: b • c, by repeated XTIMES
abbrev pub mul : ℕ → ℕ → ℕ
mul b c = mul_digits 8 b c

-- 4.2's examples: {57} • {83} = {c1} and {57} • {13} = {fe}
example-c1 : mul 0x57 0x83 ≡ 0xc1
example-c1 = refl

example-fe : mul 0x57 0x13 ≡ 0xfe
example-fe = refl

-- b^2 · b^4 · .. · b^(2^n)
abbrev pub squares : ℕ → ℕ → ℕ
squares zero b = 1
squares (suc n) b = mul (mul b b) (squares n (mul b b))

-- 4.4: the multiplicative inverse of b is b^254, and 254 = 2 + 4 + .. + 128
abbrev pub inverse : ℕ → ℕ
inverse b = squares 7 b
