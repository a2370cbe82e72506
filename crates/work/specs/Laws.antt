-- Laws of the work sum and the counts: what lists one behind the other give. Assumes nothing.
use Rattle.std.specs.Prelude.{Bool, true, false, cond, ◌≡◌, refl, List, [], ◌∷◌, ◌++◌, ℕ, suc, ◌+◌, ◌*◌, eqb}
use Rattle.std.proofs.Common.{sym, ap, ◌∙◌, zero-add, add_assoc, arith}
use Rattle.work.specs.Steps.{Step, bytes_of, mixed, mixed_all, sum_from, counted}

pub mixed_all-append : (s : ℕ) (xs ys : List ℕ) → mixed_all s (xs ++ ys) ≡ mixed_all (mixed_all s xs) ys
mixed_all-append s [] ys = refl
mixed_all-append s (x ∷ xs) ys = mixed_all-append (mixed s x) xs ys

-- a step part by part
pub mixed-step : (s : ℕ) (t : Step) {a b c d : ℕ} → a ≡ mixed s t.kind → b ≡ mixed_all a t.key → c ≡ mixed_all b t.input → d ≡ mixed_all c t.output → d ≡ mixed_all s (bytes_of t)
mixed-step s t p q r e =
    let m : ℕ = mixed s t.kind in
    e
    ∙ ap (λ (x : ℕ). mixed_all x t.output) (r ∙ ap (λ (x : ℕ). mixed_all x t.input) (q ∙ ap (λ (x : ℕ). mixed_all x t.key) p))
    ∙ sym (mixed_all-append m (t.key ++ t.input) t.output ∙ ap (λ (x : ℕ). mixed_all x t.output) (mixed_all-append m t.key t.input))

pub sum_from-append : (s : ℕ) (xs ys : List Step) → sum_from s (xs ++ ys) ≡ sum_from (sum_from s xs) ys
sum_from-append s [] ys = refl
sum_from-append s (x ∷ xs) ys = sum_from-append (mixed_all s (bytes_of x)) xs ys

pub counted-append : (k : ℕ) (xs ys : List Step) → counted k (xs ++ ys) ≡ counted k xs + counted k ys
counted-append k [] ys = sym (zero-add (counted k ys))
counted-append k (x ∷ xs) ys = rw (counted-append k xs ys) (sym (add_assoc (cond (eqb x.kind k) 1 0) (counted k xs) (counted k ys)))

-- the count of n steps of which each counts or none does
pub times_none : (t : Bool) → 0 ≡ 0 * cond t 1 0
times_none true = refl
times_none false = refl

pub times_more : (t : Bool) (n : ℕ) → cond t 1 0 + n * cond t 1 0 ≡ suc n * cond t 1 0
times_more true n = omega arith
times_more false n = omega arith
