-- FIPS 197, section 5: "the key length .. 128, 192, or 256 bits", in bytes.
use Rattle.std.specs.Prelude.{◌≡◌, refl, Bool, true, false, ◌||◌, ℕ, ◌*◌, ◌/◌, ◌%◌, ◌<◌, ◌≤◌, eqb}
use Rattle.std.proofs.Common.{sym, ap, subst, true≢false, arith, eqb-true}

-- AES-128, AES-192 and AES-256: a key of 16, 24 or 32 bytes
unfoldable pub is_key_length : ℕ → Bool
is_key_length n = eqb n 16 || (eqb n 24 || eqb n 32)

-- what holds of the three holds of each key length
pub each-length : (P : ℕ → Type 0) (n : ℕ) → is_key_length n ≡ true → P 16 → P 24 → P 32 → P n
unfolding is_key_length
each-length P n e p q r = cases (eqb n 16) refl (eqb n 24) refl (eqb n 32) refl e
  where
    cases : (s : Bool) → eqb n 16 ≡ s → (t : Bool) → eqb n 24 ≡ t → (u : Bool) → eqb n 32 ≡ u → (s || (t || u)) ≡ true → P n
    cases true es t et u eu h = subst P (sym (eqb-true n 16 es)) p
    cases false es true et u eu h = subst P (sym (eqb-true n 24 et)) q
    cases false es false et true eu h = subst P (sym (eqb-true n 32 eu)) r
    cases false es false et false eu h = absurd (true≢false (sym h))

-- the bounds, and that it is whole words
pub length-least : (n : ℕ) → is_key_length n ≡ true → 16 ≤ n
length-least n e = each-length (λ (k : ℕ). 16 ≤ k) n e (omega arith) (omega arith) (omega arith)

pub length_most : (n : ℕ) → is_key_length n ≡ true → n ≤ 32
length_most n e = each-length (λ (k : ℕ). k ≤ 32) n e (omega arith) (omega arith) (omega arith)

pub length-eights : (n : ℕ) → is_key_length n ≡ true → n % 8 ≡ 0
length-eights n e = each-length (λ (k : ℕ). k % 8 ≡ 0) n e refl refl refl

-- the same of Nk, the key's length in words: 4, 6 or 8
pub each-nk : (P : ℕ → Type 0) (nk : ℕ) → is_key_length (4 * nk) ≡ true → P 4 → P 6 → P 8 → P nk
each-nk P nk e p q r = let w : 4 * nk / 4 ≡ nk = omega arith in subst P w (each-length (λ (n : ℕ). P (n / 4)) (4 * nk) e p q r)

-- a length in bytes that is longer than four words
pub longer : (n : ℕ) → is_key_length n ≡ true → (n ≡ 16 → ⊥) → (is_key_length (4 * (n / 4)) ≡ true) × (4 < n / 4) × (n ≡ 4 * (n / 4))
unfolding is_key_length
longer n e = each-length (λ (k : ℕ). (k ≡ 16 → ⊥) → (is_key_length (4 * (k / 4)) ≡ true) × (4 < k / 4) × (k ≡ 4 * (k / 4))) n e (λ z. absurd (z refl)) (λ z. (refl, omega arith, refl)) (λ z. (refl, omega arith, refl))

-- sixteen bytes are a key of AES-128
pub length-sixteen : {n : ℕ} → n ≡ 16 → is_key_length n ≡ true
unfolding is_key_length
length-sixteen e = ap is_key_length e
