-- Laws of hexadecimal digits: where they stand in ASCII; lengths and places of digits and their octets. Assumes nothing.
use Rattle.std.specs.Prelude.{◌≡◌, refl, Bool, true, false, ◌||◌, List, [], ◌∷◌, ◌++◌, ◌⊎◌, ℕ, zero, suc, ◌+◌, ◌*◌, ◌/◌, ◌%◌, ◌<◌, ◌≤◌, leb, length, get_or}
use Rattle.std.proofs.Common.{ap, ap₂, ◌∙◌, inl, inr, ⊎_elim, arith, leb-true}
use Rattle.octets.specs.Same.{split-and}
use Rattle.conversion.specs.Conversion.{each}
use Rattle.hexadecimal.specs.Hexadecimal.{within, is_digit, digit_value, digit, octets_of, digits_of}

or-true : (a b : Bool) → (a || b) ≡ true → (a ≡ true) ⊎ (b ≡ true)
or-true true b e = inl refl
or-true false b e = inr e

within-true : (first last c : ℕ) → within first last c ≡ true → (first ≤ c) × (c ≤ last)
within-true first last c e = let p = split-and (leb first c) (leb c last) e in (leb-true first c p.0, leb-true c last p.1)

-- what holds in each of the three ranges of ASCII holds of a digit
pub digit-cases : {P : Type 0} (c : ℕ) → is_digit c ≡ true → ((0x30 ≤ c) × (c ≤ 0x39) → P) → ((0x41 ≤ c) × (c ≤ 0x46) → P) → ((0x61 ≤ c) × (c ≤ 0x66) → P) → P
unfolding is_digit
digit-cases c e number capital letter =
    ⊎_elim (λ p. number (within-true 0x30 0x39 c p))
    (λ q. ⊎_elim (λ p. capital (within-true 0x41 0x46 c p)) (λ p. letter (within-true 0x61 0x66 c p)) (or-true (within 0x41 0x46 c) (within 0x61 0x66 c) q))
    (or-true (within 0x30 0x39 c) (within 0x41 0x46 c || within 0x61 0x66 c) e)

pub length_digits : (r : List ℕ) → length (digits_of r) ≡ 2 * length r
unfolding digits_of
length_digits [] = refl
length_digits (b ∷ r) = omega (arith, length_digits r)

pub length-octets : (s : List ℕ) → length (octets_of s) ≡ length s / 2
unfolding octets_of
length-octets [] = refl
length-octets (a ∷ []) = refl
length-octets (a ∷ b ∷ s) = omega (arith, length-octets s)

-- the octet at a place is that of the two digits at twice the place
pub get_or-octets : (s : List ℕ) (i : ℕ) → 2 * i + 1 < length s → get_or (octets_of s) i 0 ≡ 16 * digit_value (get_or s (2 * i) 0) + digit_value (get_or s (2 * i + 1) 0)
unfolding octets_of
get_or-octets [] i h = absurd (omega arith)
get_or-octets (a ∷ []) i h = absurd (omega arith)
get_or-octets (a ∷ b ∷ s) zero h = refl
get_or-octets (a ∷ b ∷ s) (suc i) h =
    let p : suc (suc (2 * i)) ≡ 2 * suc i = omega arith in
    let q : suc (suc (2 * i + 1)) ≡ 2 * suc i + 1 = omega arith in
    get_or-octets s i (omega arith) ∙ ap₂ (λ (m n : ℕ). 16 * digit_value (get_or (a ∷ b ∷ s) m 0) + digit_value (get_or (a ∷ b ∷ s) n 0)) p q

pub digits-snoc : (r : List ℕ) (b : ℕ) → digits_of (r ++ (b ∷ [])) ≡ digits_of r ++ (digit (b / 16) ∷ digit (b % 16) ∷ [])
unfolding digits_of
digits-snoc [] b = refl
digits-snoc (x ∷ r) b = ap (λ (s : List ℕ). digit (x / 16) ∷ digit (x % 16) ∷ s) (digits-snoc r b)

-- what holds of every element holds of one
pub each_at : (p : ℕ → Bool) (s : List ℕ) (i : ℕ) → each p s ≡ true → i < length s → p (get_or s i 0) ≡ true
each_at p [] i e h = absurd (omega arith)
each_at p (c ∷ s) zero e h = (split-and (p c) (each p s) e).0
each_at p (c ∷ s) (suc i) e h = each_at p s i (split-and (p c) (each p s) e).1 (omega arith)
