-- Digits to octets and back, and digits made small. Assumes nothing.
use Rattle.std.specs.Prelude.{◌≡◌, refl, true, ◌&&◌, List, [], ◌∷◌, map, ℕ, suc, ◌+◌, ◌*◌, ◌-◌, ◌/◌, ◌%◌, ◌<◌, length}
use Rattle.std.proofs.Common.{ap, ap₂, ◌∙◌, arith}
use Rattle.octets.specs.Bytes.{Bytes}
use Rattle.octets.specs.Lists.{cons}
use Rattle.octets.specs.Same.{split-and}
use Rattle.conversion.specs.Conversion.{each}
use Rattle.hexadecimal.specs.Hexadecimal.{is_digit, digit_value, digit, octets_of, digits_of}
use Rattle.uuids.specs.Uuid.{small}
use Rattle.door_claims.specs.Characters.{digit-facts, value-facts, small-digit}

-- the two digits of a byte are digits, and give it back
halves : (b : ℕ) → b < 256 → (b / 16 < 16) × (b % 16 < 16)
halves b h = (omega arith, omega arith)

pub digits_are : (r : List ℕ) → Bytes r → each is_digit (digits_of r) ≡ true
unfolding digits_of
digits_are [] h = refl
digits_are (b ∷ r) h =
    let k = halves b (h 0) in
    simp ((value-facts (b / 16) k.0).0, (value-facts (b % 16) k.1).0, digits_are r (λ i. h (suc i)))

pub octets-back : (r : List ℕ) → Bytes r → octets_of (digits_of r) ≡ r
unfolding octets_of digits_of
octets-back [] h = refl
octets-back (b ∷ r) h =
    let k = halves b (h 0) in
    let e : 16 * (b / 16) + b % 16 ≡ b = omega arith in
    cons (ap₂ (λ (x y : ℕ). 16 * x + y) (value-facts (b / 16) k.0).1 (value-facts (b % 16) k.1).1 ∙ e) (octets-back r (λ i. h (suc i)))

-- digits in pairs come back small
pub digits-back : (s : List ℕ) (n : ℕ) → length s ≡ 2 * n → each is_digit s ≡ true → digits_of (octets_of s) ≡ map small s
unfolding octets_of digits_of
digits-back [] n l e = refl
digits-back (a ∷ []) n l e = absurd (omega arith)
digits-back (a ∷ b ∷ s) n l e =
    let p = split-and (is_digit a) (is_digit b && each is_digit s) e in
    let q = split-and (is_digit b) (each is_digit s) p.1 in
    let fa = digit-facts a p.0 in
    let fb = digit-facts b q.0 in
    let high : (16 * digit_value a + digit_value b) / 16 ≡ digit_value a = omega (arith, fb.0) in
    let low : (16 * digit_value a + digit_value b) % 16 ≡ digit_value b = omega (arith, fb.0) in
    cons (ap digit high ∙ fa.1) (cons (ap digit low ∙ fb.1) (digits-back s (n - 1) (omega arith) q.1))

-- small digits are digits, of the same octets
pub each-small : (s : List ℕ) → each is_digit (map small s) ≡ each is_digit s
each-small [] = refl
each-small (c ∷ s) = ap₂ ◌&&◌ (small-digit c) (each-small s)

pub octets-small : (s : List ℕ) → each is_digit s ≡ true → octets_of (map small s) ≡ octets_of s
unfolding octets_of
octets-small [] e = refl
octets-small (a ∷ []) e = refl
octets-small (a ∷ b ∷ s) e =
    let p = split-and (is_digit a) (is_digit b && each is_digit s) e in
    let q = split-and (is_digit b) (each is_digit s) p.1 in
    cons (ap₂ (λ (x y : ℕ). 16 * x + y) (digit-facts a p.0).2 (digit-facts b q.0).2) (octets-small s q.1)
