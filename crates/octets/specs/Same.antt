-- Laws of `same`: it is equality of lists, it goes byte by byte, and a fold over the pairs computes it. Assumes nothing.
use Rattle.std.specs.Prelude.{◌≡◌, refl, Bool, true, false, ◌&&◌, List, [], ◌∷◌, ℕ, ◌+◌, ◌<◌, ◌≤◌, eqb, length, get_or, drop}
use Rattle.std.specs.List.{fold, zip}
use Rattle.std.proofs.Common.{sym, ap₂, ◌∙◌, add-one, arith, drop_of_length-le, drop-cons, eq-eqb, eqb-true}
use mathlib.Core.Bool.{and_assoc}
use Rattle.std.proofs.Math.Bool.{and-true}
use Rattle.octets.specs.Bytes.{same}

pub same_refl : (s : List ℕ) → same s s ≡ true
same_refl [] = refl
same_refl (x ∷ s) = rw (eq-eqb x x refl) (same_refl s)

pub same_of : (s t : List ℕ) → s ≡ t → same s t ≡ true
same_of s t e = rw e (same_refl t)

pub split-and : (a b : Bool) → (a && b) ≡ true → (a ≡ true) × (b ≡ true)
split-and true b e = (refl, e)
split-and false b e = absurd (let z : ◌≡◌ {A = ℕ} 0 1 = cc in omega arith)

pub same_true : (s t : List ℕ) → same s t ≡ true → s ≡ t
same_true [] [] e = refl
same_true [] (y ∷ t) e = absurd (let z : ◌≡◌ {A = ℕ} 0 1 = cc in omega arith)
same_true (x ∷ s) [] e = absurd (let z : ◌≡◌ {A = ℕ} 0 1 = cc in omega arith)
same_true (x ∷ s) (y ∷ t) e = let p = split-and (eqb x y) (same s t) e in ap₂ (λ (a : ℕ) (l : List ℕ). a ∷ l) (eqb-true x y p.0) (same_true s t p.1)

-- a fold over the pairs, from r on
pub same_fold : (a b : List ℕ) → length a ≡ length b → (r : Bool) → fold (λ (q : Bool) (p : ℕ × ℕ). q && eqb p.0 p.1) r (zip a b) ≡ (r && same a b)
same_fold [] [] e r = sym (and-true r)
same_fold [] (y ∷ b) e r = absurd (omega arith)
same_fold (x ∷ a) [] e r = absurd (omega arith)
same_fold (x ∷ a) (y ∷ b) e r = same_fold a b (omega arith) (r && eqb x y) ∙ and_assoc r (eqb x y) (same a b)

-- one byte of each, and the rest
pub same_drop : (a b : List ℕ) (i : ℕ) → i < length a → i < length b → same (drop i a) (drop i b) ≡ (eqb (get_or a i 0) (get_or b i 0) && same (drop (i + 1) a) (drop (i + 1) b))
same_drop a b i h k = rw (add-one, drop-cons a i 0, drop-cons b i 0)

pub same-done : (r : Bool) (a b : List ℕ) (i : ℕ) → length a ≤ i → length b ≤ i → (r && same (drop i a) (drop i b)) ≡ r
same-done r a b i h k = rw (drop_of_length-le a h, drop_of_length-le b k) (and-true r)
