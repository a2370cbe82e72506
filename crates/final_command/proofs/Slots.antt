-- A turn of the loop over mode slots, and what it has past the last one. Assumes nothing.
use mathlib.Core.Path.{◌≡◌, sym, ap, ◌∙◌}
use mathlib.Core.Bool.{cond}
use mathlib.Core.List.{List, [], ◌∷◌}
use Prim.Native.Nat.{ℕ, ◌+◌, ◌<◌, ◌≤◌}
use native.Mathlib.Numerals.{add-one}
use native.Mathlib.Omega.{arith}
use lib.Dec.{eqb}
use lib.ListN.{length, get_or, drop, drop_of_length-le}
use lib.Seq.{drop-cons}
use Rattle.work.specs.declared.Made.{Made}
use Rattle.work.specs.Steps.{comparison, sum_from, counted}
use Rattle.steps.specs.Made.{mode_matched, mode_comparison}
use Rattle.plaid_types.specs.Cards.{no_mode}
use Rattle.plaid_types.specs.declared.OpModeId.{OpModeId}
use Rattle.plaid_types.specs.declared.ModeSlot.{ModeSlot}
use Rattle.steps.specs.Laws.{kept-last}
use Rattle.final_command.specs.Final.{mode_steps, first_mode}
use Rattle.final_command.specs.Laws.{counted-modes}

module _ (v : OpModeId) (l : List ModeSlot) (i : ℕ) where
  pub sum-turn : (s : ℕ) → i < length l →
      sum_from s (mode_steps v (drop i l)) ≡ sum_from (sum_from s (mode_comparison v (get_or l i no_mode).held (get_or l i no_mode).id ∷ [])) (mode_steps v (drop (i + 1) l))
  sum-turn s h = rw (add-one, drop-cons l i no_mode)

  pub first-turn : i < length l →
      first_mode i v (drop i l) ≡ cond (mode_matched v (get_or l i no_mode).held (get_or l i no_mode).id) i (first_mode (i + 1) v (drop (i + 1) l))
  first-turn h = rw (add-one, drop-cons l i no_mode)

  pub sum-end : (s : ℕ) → length l ≤ i → sum_from s (mode_steps v (drop i l)) ≡ s
  sum-end s h = rw (drop_of_length-le l h)

  pub first-end : length l ≤ i → first_mode i v (drop i l) ≡ i
  first-end h = rw (drop_of_length-le l h)

-- past the last slot
pub found-same : (v : OpModeId) (l : List ModeSlot) (i at count s sum : ℕ) → length l ≡ 16 → i ≡ 16 → count ≡ i →
    sum_from s (mode_steps v (drop i l)) ≡ sum_from sum (mode_steps v l) → cond (eqb at 16) (first_mode i v (drop i l)) at ≡ first_mode 0 v l →
    ◌≡◌ {A = Made ℕ} (record { value = at; count = count; sum = s }) (record { value = first_mode 0 v l; count = counted comparison (mode_steps v l); sum = sum_from sum (mode_steps v l) })
found-same v l i at count s sum n e qc qs qa =
    let h : length l ≤ i = omega arith in
    let a : at ≡ first_mode 0 v l = sym (kept-last 16 at) ∙ ap (λ (k : ℕ). cond (eqb at 16) k at) (sym e ∙ sym (first-end v l i h)) ∙ qa in
    let c : count ≡ counted comparison (mode_steps v l) = omega (arith, counted-modes comparison v l) in
    let t : s ≡ sum_from sum (mode_steps v l) = sym (sum-end v l i s h) ∙ qs in
    λ j. record { value = a j; count = c j; sum = t j }
