-- FIPS 180-4, section 4.1.2: "SHA-224 and SHA-256 both use six logical functions, where each function operates on 32-bit words, which are
-- represented as x, y, and z. The result of each function is a new 32-bit word."
use Rattle.std.specs.Prelude.{ℕ, bit_and, bit_xor}
use Rattle.sha_words.specs.Words.{complement, rotr, shr}

-- (4.2) Ch(x, y, z) = (x ∧ y) ⊕ (¬x ∧ z)
unfoldable pub ch : ℕ → ℕ → ℕ → ℕ
ch x y z = bit_xor (bit_and x y) (bit_and (complement x) z)

-- (4.3) Maj(x, y, z) = (x ∧ y) ⊕ (x ∧ z) ⊕ (y ∧ z)
unfoldable pub maj : ℕ → ℕ → ℕ → ℕ
maj x y z = bit_xor (bit_xor (bit_and x y) (bit_and x z)) (bit_and y z)

-- (4.4) Σ0(x) = ROTR^2(x) ⊕ ROTR^13(x) ⊕ ROTR^22(x)
unfoldable pub upper_sigma0 : ℕ → ℕ
upper_sigma0 x = bit_xor (bit_xor (rotr 2 x) (rotr 13 x)) (rotr 22 x)

-- (4.5) Σ1(x) = ROTR^6(x) ⊕ ROTR^11(x) ⊕ ROTR^25(x)
unfoldable pub upper_sigma1 : ℕ → ℕ
upper_sigma1 x = bit_xor (bit_xor (rotr 6 x) (rotr 11 x)) (rotr 25 x)

-- (4.6) σ0(x) = ROTR^7(x) ⊕ ROTR^18(x) ⊕ SHR^3(x)
unfoldable pub sigma0 : ℕ → ℕ
sigma0 x = bit_xor (bit_xor (rotr 7 x) (rotr 18 x)) (shr 3 x)

-- (4.7) σ1(x) = ROTR^17(x) ⊕ ROTR^19(x) ⊕ SHR^10(x)
unfoldable pub sigma1 : ℕ → ℕ
sigma1 x = bit_xor (bit_xor (rotr 17 x) (rotr 19 x)) (shr 10 x)
