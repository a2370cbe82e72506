-- The tests of key sets: the number that is told, by what each test says. Assumes nothing.
use Prim.Native.Nat.{ℕ, ◌≤◌}
use Rattle.std.proofs.Common.{◌≡◌, ap, sym, ◌∙◌, Bool, false, ◌||◌, List, cond, take, le-ltb, ne_eqb}
use Rattle.plaid_types.specs.declared.KeySet.{KeySet}
use Rattle.load.specs.Load.{miscounted, repeated, set_ids, wrong_keys, with_handle, sets_refusal}

-- a count of one to the most is no wrong one
pub count_within : (most n : ℕ) → (n ≡ 0 → ⊥) → n ≤ most → miscounted most n ≡ false
count_within most n e h = simp (ne_eqb n 0 e, le-ltb most n h)

-- a test of the first m sets, where m is n
pub of_first : (p : List KeySet → Bool) (sets : List KeySet) (n : ℕ) {m : ℕ} {r : Bool} → r ≡ p (take m sets) → m ≡ n → r ≡ p (take n sets)
of_first p sets n e h = e ∙ ap (λ j. p (take j sets)) h

-- one of two tests, of which b is the second
pub either_of : {p r t : Bool} (b : Bool) → (p || b) ≡ t → p ≡ r → (r || b) ≡ t
either_of b z x = sym (ap (λ (u : Bool). u || b) x) ∙ z

-- the number that is told of the sets, by what the four tests give
pub sets_told : (l : ℕ) (sets : List KeySet) (n : ℕ) (other : Bool) (handle : ℕ) {s k t u : Bool} →
    miscounted 8 n ≡ s →
    (wrong_keys l (take n sets) || other) ≡ k →
    repeated (set_ids (take n sets)) ≡ t →
    with_handle handle (take n sets) ≡ u →
    cond s 1 (cond k 22 (cond t 2 (cond u 3 0))) ≡ sets_refusal l sets n other handle
unfolding sets_refusal
sets_told l sets n other handle es ek et eu = simp (es, ek, et, eu)
