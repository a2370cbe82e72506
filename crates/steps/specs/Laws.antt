-- Laws of the steps that a function makes: their counts of each kind, a hash's steps one by one, and what a search keeps of its hits.
-- Assumes nothing.
use Rattle.std.specs.Prelude.{Bool, true, false, cond, ◌≡◌, refl, List, ◌∷◌, ℕ, zero, suc, ◌+◌, ◌-◌, ◌<◌, eqb}
use Rattle.std.proofs.Common.{sym, ap, ◌∙◌, add-one, arith, ne_eqb, eq-eqb, eqb-true}
use Rattle.octets.specs.Lists.{table}
use Rattle.sha_padding.specs.Parsing.{blocks}
use Rattle.work.specs.Steps.{hash_block, counted}
use Rattle.steps.specs.Made.{hash_step, hash_steps, kept}

times : (b : Bool) (n : ℕ) → cond b 1 0 + cond b n 0 ≡ cond b (suc n) 0
times true n = omega arith
times false n = refl

counted-table : (k : ℕ) (m : List ℕ) (n j : ℕ) → counted k (table (hash_step m) n j) ≡ cond (eqb hash_block k) n 0
counted-table k m zero j = none (eqb hash_block k)
  where
    none : (b : Bool) → ◌≡◌ {A = ℕ} 0 (cond b 0 0)
    none true = refl
    none false = refl
counted-table k m (suc n) j = ap (λ (x : ℕ). cond (eqb hash_block k) 1 0 + x) (counted-table k m n (suc j)) ∙ times (eqb hash_block k) n

pub counted-hash : (k : ℕ) (m : List ℕ) → counted k (hash_steps m) ≡ cond (eqb hash_block k) (blocks m) 0
unfolding hash_steps
counted-hash k m = counted-table k m (blocks m) 0

-- what is left of a table of n entries at place i: the entry there, and what is left after it
pub table-next : {A : Type 0} (f : ℕ → A) (n i : ℕ) → i < n → table f (n - i) i ≡ f i ∷ table f (n - (i + 1)) (i + 1)
table-next f n i h =
    ap (λ (x : ℕ). table f x i) e ∙ ap (λ (x : ℕ). f i ∷ table f (n - (i + 1)) x) (sym (add-one i))
  where
    e : n - i ≡ suc (n - (i + 1))
    e = omega arith

-- A search over places below n has found `first`, or n where nothing yet; `rest` is what it finds from the next place on. A turn at place i
kept-cases : (n first i rest : ℕ) (hit b : Bool) → eqb first n ≡ b → i < n → cond (eqb (kept n first i hit) n) rest (kept n first i hit) ≡ cond (eqb first n) (cond hit i rest) first
kept-cases n first i rest true true e l = simp (e, ne_eqb i n (λ q. omega arith))
kept-cases n first i rest false true e l = simp (e, eq-eqb n n refl)
kept-cases n first i rest hit false e l = simp e

pub kept_next : (n first i rest : ℕ) (hit : Bool) → i < n → cond (eqb (kept n first i hit) n) rest (kept n first i hit) ≡ cond (eqb first n) (cond hit i rest) first
kept_next n first i rest hit l = kept-cases n first i rest hit (eqb first n) refl l

-- before the first place, and past the last
pub kept-start : (n rest : ℕ) → cond (eqb n n) rest n ≡ rest
kept-start n rest = simp (eq-eqb n n refl)

last-cases : (n first : ℕ) (b : Bool) → eqb first n ≡ b → cond b n first ≡ first
last-cases n first true e = sym (eqb-true first n e)
last-cases n first false e = refl

pub kept-last : (n first : ℕ) → cond (eqb first n) n first ≡ first
kept-last n first = last-cases n first (eqb first n) refl
