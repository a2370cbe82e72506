-- What is written over a list: from its start on, and one list behind another. Assumes nothing.
use Rattle.std.specs.Prelude.{◌≡◌, refl, List, ◌∷◌, ◌++◌, ℕ, zero, suc, ◌+◌, ◌≤◌, length, take, drop, replicate}
use Rattle.std.proofs.Common.{sym, ap, ap₂, ◌∙◌, append_assoc, zero-add, arith, length-append, length-take-le, take_at, drop-drop}
use Rattle.std.proofs.Math.Seq.{drop-append-add}
use lib.Seq.{take-length}
use borrow.Rule.Slice.PartMut.{put_mid}
use Rattle.std.proofs.lemmas.Slice.{put_mid-paste}
use Rattle.octets.specs.Lists.{over}

-- what a slice holds whose part from `at` on, of k elements, is s
pub over_by_part : (d : List ℕ) (at k : ℕ) (s t : List ℕ) → t ≡ s → length s ≡ k → put_mid at k d t ≡ over d at s
unfolding over
over_by_part d at k s t e h =
    put_mid-paste at k d t s (length s) e h refl
    ∙ ap (λ (x : List ℕ). take at d ++ x ++ drop (at + length s) d) (take-length s)

-- the first n of so many zeros
pub zeros_of : (m n : ℕ) → n ≤ m → ◌≡◌ {A = List ℕ} (take n (replicate m 0)) (replicate n 0)
zeros_of m zero h = refl
zeros_of zero (suc n) h = absurd (omega arith)
zeros_of (suc m) (suc n) h = ap (λ (x : List ℕ). 0 ∷ x) (zeros_of m n (omega arith))

pub over-front : (d s : List ℕ) → over d 0 s ≡ s ++ drop (length s) d
unfolding over
over-front d s = ap (λ (n : ℕ). s ++ drop n d) (zero-add (length s))

pub take-over : (d s : List ℕ) (n : ℕ) → length s ≡ n → take n (over d 0 s) ≡ s
take-over d s n e = ap (take n) (over-front d s) ∙ take_at s (drop (length s) d) n e

-- s is written over d, and t behind it
pub over-next : (d s t : List ℕ) (at : ℕ) {bt : ℕ} {e e' : List ℕ} → at + length s ≡ bt → at ≤ length d → e ≡ over d at s → e' ≡ over e bt t → e' ≡ over d at (s ++ t)
unfolding over
over-next d s t at {bt} l k q r =
    let p : List ℕ = take at d ++ s in
    let rest : List ℕ = drop (at + length s) d in
    let m : length p ≡ bt = length-append (take at d) s ∙ ap (λ (n : ℕ). n + length s) (length-take-le at d k) ∙ l in
    let n : at + length s + length t ≡ at + length (s ++ t) = omega (arith, length-append s t) in
    r ∙ ap (λ (x : List ℕ). over x bt t) q
    ∙ ap₂ (λ (x y : List ℕ). x ++ t ++ y)
    (take_at p rest bt m)
    (ap (λ (k : ℕ). drop (k + length t) (p ++ rest)) (sym m) ∙ drop-append-add p rest (length t) ∙ drop-drop (length t) (at + length s) d ∙ ap (λ (k : ℕ). drop k d) n)
    ∙ ap (λ (x : List ℕ). x ++ drop (at + length (s ++ t)) d) (append_assoc (take at d) s t)

-- the same from the start of d on
pub over-behind : (d s t : List ℕ) {n : ℕ} {e e' : List ℕ} → length s ≡ n → e ≡ over d 0 s → e' ≡ over e n t → e' ≡ over d 0 (s ++ t)
over-behind d s t l q r = over-next d s t 0 (omega arith) (omega arith) q r
