-- Laws of Wiegand numbers: counts of ones, also as a loop makes them, the bits of a record by their places. Assumes nothing.
use Rattle.std.specs.Prelude.{◌≡◌, refl, Bool, true, false, cond, List, [], ◌∷◌, ◌++◌, ℕ, zero, suc, ◌+◌, ◌%◌, ◌<◌, ◌≤◌, eqb, length, get_or, take, drop, replicate, count_by}
use Rattle.std.proofs.Common.{subst, sym, zero-add, add-one, arith, drop_of_length-le, drop-cons}
use Rattle.std.proofs.lemmas.List.Recursion.{is_count_by}
use Rattle.octets.specs.Lists.{part}
use Rattle.wiegand.specs.Wiegand.{ones, even_right, odd_right, character, text_bits}
use Rattle.binary.specs.Places.{by-places}

-- ones, counted by a test
one-more : (t : Bool) (n : ℕ) → cond t 1 0 + n ≡ cond t (1 + n) n
one-more true n = refl
one-more false n = zero-add n

pub count-ones : (s : List ℕ) → count_by (λ x. eqb x 1) s ≡ ones s
unfolding ones
count-ones s = sym (is_count_by ones (λ x. eqb x 1) refl (λ x r. one-more (eqb x 1) (ones r)) s)

-- one turn of a count, and its end
pub ones-turn : (s : List ℕ) (i : ℕ) → i < length s → ones (drop i s) ≡ cond (eqb (get_or s i 0) 1) 1 0 + ones (drop (i + 1) s)
unfolding ones
ones-turn s i h = rw (add-one, drop-cons s i 0 h)

pub ones-done : (s : List ℕ) (i : ℕ) → length s ≤ i → ones (drop i s) ≡ 0
unfolding ones
ones-done s i h = rw (drop_of_length-le s h)

-- the thirteen bits that an even count is asked of, and those of an odd one
pub even-places : (b : List ℕ) → length b ≡ 32 → even_right (drop 6 b) ≡ eqb (ones (part b 6 13) % 2) 0
unfolding even_right part
even-places b e = subst (λ (s : List ℕ). even_right (drop 6 s) ≡ eqb (ones (part s 6 13) % 2) 0) (by-places 32 b e) refl

pub odd-places : (b : List ℕ) → length b ≡ 32 → odd_right (drop 6 b) ≡ eqb (ones (part b 19 13) % 2) 1
unfolding odd_right part
odd-places b e = subst (λ (s : List ℕ). odd_right (drop 6 s) ≡ eqb (ones (part s 19 13) % 2) 1) (by-places 32 b e) refl

-- bits are 0 or 1
bit-small : (c : ℕ) (t : Bool) → cond t 1 0 ≤ 1
bit-small c true = omega arith
bit-small c false = omega arith

text-small : (t : List ℕ) (i : ℕ) → get_or (text_bits t) i 0 ≤ 1
text-small [] i = omega arith
text-small (c ∷ t) zero = bit-small c (eqb c (character 1))
text-small (c ∷ t) (suc i) = text-small t i

-- six zeros do not change that
pub zeros-small : (n : ℕ) (t : List ℕ) (i : ℕ) → get_or (replicate n 0 ++ text_bits t) i 0 ≤ 1
zeros-small zero t i = text-small t i
zeros-small (suc n) t zero = omega arith
zeros-small (suc n) t (suc i) = zeros-small n t i

pub take-small : (n : ℕ) (s : List ℕ) → ((i : ℕ) → get_or s i 0 ≤ 1) → (i : ℕ) → get_or (take n s) i 0 ≤ 1
take-small zero s h i = omega arith
take-small (suc n) [] h i = omega arith
take-small (suc n) (x ∷ s) h zero = h 0
take-small (suc n) (x ∷ s) h (suc i) = take-small n s (λ j. h (suc j)) i
