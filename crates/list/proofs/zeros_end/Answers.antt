-- `list::zeros_end` meets its contract: each test is one of `ended`. Assumes nothing.
use Prim.Native.Nat.{ℕ, ◌+◌, ◌-◌, ◌≤◌}
use mathlib.Core.Path.{◌≡◌, sym, ◌∙◌}
use mathlib.Core.Bool.{Bool, true, false, ◌&&◌}
use native.Mathlib.Omega.{arith}
use borrow.Author.Tests.{eq-eqb, ne_eqb, eqb-true, eqb-false, leb-true}
use lib.Dec.{eqb}
use lib.ListN.{length, get_or}
use Rattle.list.specs.Ber.{ended}
use Rattle.list.proofs.zeros_end.Goals as goal
use Rattle.list.proofs.zeros_end.Goals.{then-d-ge2, else-d-ge2, then-at-d, else-at-d}

-- a place that is not the last but one
elsewhere : (at n : ℕ) (r : Bool) → (at + 2 ≡ n → ⊥) → false ≡ eqb (at + 2) n && r
elsewhere at n r h = simp (ne_eqb (at + 2) n h)

-- the last but one, with another byte than 0 first, or with 0
there : (at n x : ℕ) (r : Bool) → 2 ≤ n → eqb at (n - 2) ≡ true → eqb x 0 ≡ false → false ≡ eqb (at + 2) n && (eqb x 0 && r)
there at n x r h e f = simp (f, eq-eqb (at + 2) n (omega (arith, eqb-true at (n - 2) e)))

zero : (at n x : ℕ) (r : Bool) → 2 ≤ n → eqb at (n - 2) ≡ true → eqb x 0 ≡ true → r ≡ eqb (at + 2) n && (eqb x 0 && r)
zero at n x r h e f = simp (f, eq-eqb (at + 2) n (omega (arith, eqb-true at (n - 2) e)))

never : {p q : Bool} → false ≡ true → p ≡ q
never e = cc

pub returns-then-d-at-eq0 : goal.returns-then-d-at-eq0
unfolding ended
returns-then-d-at-eq0 c =
    let a = c.args in
    elim c.if-at-d.branch [
      | then-at-d w ↦ elim c.if-d-ge2.branch [
        | then-d-ge2 v ↦ zero a.at (length a.d.now) (get_or a.d.now a.at 0) (eqb (get_or a.d.now (a.at + 1) 0) 0) v.if-d-ge2.true (sym v.value-is ∙ w.if-at-d.true) (sym w.value-is ∙ c.if-d-at-eq0.true)
        | else-d-ge2 v ↦ absurd (omega (arith, leb-true 2 (length a.d.now) (sym v.value-is ∙ w.if-at-d.true), v.if-d-ge2.false))
      ]
      | else-at-d w ↦ never (sym w.if-at-d.false ∙ sym w.value-is ∙ c.if-d-at-eq0.true)
    ]

pub returns-else-d-at-eq0 : goal.returns-else-d-at-eq0
unfolding ended
returns-else-d-at-eq0 c =
    let a = c.args in
    c.if-d-at-eq0.false ∙ elim c.if-at-d.branch [
      | then-at-d w ↦ elim c.if-d-ge2.branch [
        | then-d-ge2 v ↦ there a.at (length a.d.now) (get_or a.d.now a.at 0) _ v.if-d-ge2.true (sym v.value-is ∙ w.if-at-d.true) (sym w.value-is ∙ c.if-d-at-eq0.false)
        | else-d-ge2 v ↦ elsewhere a.at (length a.d.now) _ (λ e. omega (arith, v.if-d-ge2.false))
      ]
      | else-at-d w ↦ elim c.if-d-ge2.branch [
        | then-d-ge2 v ↦ elsewhere a.at (length a.d.now) _ (λ e. eqb-false a.at (length a.d.now - 2) (sym v.value-is ∙ w.if-at-d.false) (omega (arith, e)))
        | else-d-ge2 v ↦ elsewhere a.at (length a.d.now) _ (λ e. omega (arith, v.if-d-ge2.false))
      ]
    ]
