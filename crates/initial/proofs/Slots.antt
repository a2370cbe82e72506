-- The loop of `compare_slots`: what is left of a place's comparisons, with what was found so far, is all of them. Assumes nothing.
use mathlib.Core.Path.{◌≡◌, refl, sym, ap, ◌∙◌}
use mathlib.Core.Bool.{Bool, cond}
use mathlib.Core.List.{List, [], ◌∷◌}
use Prim.Native.Nat.{ℕ, ◌+◌, ◌<◌, ◌≤◌}
use native.Mathlib.Nat.{zero-add, add-zero}
use native.Mathlib.Numerals.{add-one}
use native.Mathlib.Omega.{arith}
use lib.Dec.{eqb}
use lib.ListN.{length, drop, get_or, drop_of_length-le}
use lib.Seq.{drop-cons}
use Rattle.work.specs.declared.Made.{Made}
use Rattle.work.specs.Steps.{comparison, counted, sum_from}
use Rattle.steps.specs.Made.{set_matched, set_comparison, kept}
use Rattle.steps.specs.Laws.{kept_next, kept-start, kept-last}
use Rattle.plaid_types.specs.declared.KeySetId.{KeySetId}
use Rattle.plaid_types.specs.declared.KeySetSlot.{KeySetSlot}
use Rattle.initial.specs.Initial.{slot_steps, first_slot}
use Rattle.initial.specs.Told.{slots_found}

-- what one comparison gives
abbrev pub compared_with : Bool → KeySetId → KeySetSlot → ℕ → Made Bool
compared_with present v k s =
    record {
      value = set_matched present v k.held k.id;
      count = counted comparison (set_comparison present v k.held k.id ∷ []);
      sum = sum_from s (set_comparison present v k.held k.id ∷ []);
    }

-- before slot i of a place's comparisons, which start from the sum s₀
pub record SlotsDone (present : Bool) (v : KeySetId) (sets : List KeySetSlot) (s₀ i first count s : ℕ) : Type 0 where
  pub reach : i ≤ 8
  pub few : count ≤ i
  pub counts : count + counted comparison (slot_steps present v (drop i sets)) ≡ counted comparison (slot_steps present v sets)
  pub sums : sum_from s (slot_steps present v (drop i sets)) ≡ sum_from s₀ (slot_steps present v sets)
  pub firsts : cond (eqb first 8) (first_slot i present v (drop i sets)) first ≡ first_slot 0 present v sets

module _ (present : Bool) (v : KeySetId) (sets : List KeySetSlot) where
  steps_next : (i : ℕ) (d : KeySetSlot) → i < length sets →
      slot_steps present v (drop i sets) ≡ set_comparison present v (get_or sets i d).held (get_or sets i d).id ∷ slot_steps present v (drop (i + 1) sets)
  steps_next i d h = rw (add-one, drop-cons sets i d)

  first_next : (i : ℕ) (d : KeySetSlot) → i < length sets →
      first_slot i present v (drop i sets) ≡ cond (set_matched present v (get_or sets i d).held (get_or sets i d).id) i (first_slot (i + 1) present v (drop (i + 1) sets))
  first_next i d h = rw (add-one, drop-cons sets i d)

  pub slots-start : (s : ℕ) → SlotsDone present v sets s 0 8 0 s
  slots-start s = record { reach = omega arith; few = omega arith; counts = zero-add _; sums = refl; firsts = kept-start 8 _ }

  pub slots-turn :
      {s₀ i first count s next : ℕ} {r : Made Bool} (d : KeySetSlot)
      → length sets ≡ 8
      → i < 8
      → SlotsDone present v sets s₀ i first count s
      → r ≡ compared_with present v (get_or sets i d) s
      → next ≡ kept 8 first i r.value
      → SlotsDone present v sets s₀ (i + 1) next (count + r.count) r.sum
  slots-turn {s₀} {i} {first} {count} {s} {next} {r} d l h q e f =
      let m : i < length sets = omega arith in
      let one : r.count ≡ 1 = ap (λ (x : Made Bool). x.count) e in
      let all = rw (steps_next i d m) at q.counts in
      record {
        reach = omega arith;
        few = omega (arith, q.few);
        counts = omega (arith, one) ∙ all;
        sums = rw (ap (λ (x : Made Bool). x.sum) e) (rw (steps_next i d m) at q.sums);
        firsts = rw (f, kept_next 8 first i (first_slot (i + 1) present v (drop (i + 1) sets)) r.value h, ap (λ (x : Made Bool). x.value) e) (rw (first_next i d m) at q.firsts);
      }

  pub slots_end :
      {s₀ i first count s : ℕ}
      → length sets ≡ 8
      → 8 ≤ i
      → SlotsDone present v sets s₀ i first count s
      → ◌≡◌ {A = Made ℕ} (record { value = first; count = count; sum = s }) (slots_found present v sets s₀)
  slots_end {s₀} {i} {first} {count} {s} l h q =
      let n : i ≡ 8 = omega (arith, q.reach) in
      let z : drop i sets ≡ [] = drop_of_length-le sets {i = i} (omega arith) in
      let a : first ≡ first_slot 0 present v sets = sym (kept-last 8 first) ∙ rw (z, n) at q.firsts in
      let b : count ≡ counted comparison (slot_steps present v sets) = sym (add-zero count) ∙ rw z at q.counts in
      let e : s ≡ sum_from s₀ (slot_steps present v sets) = rw z at q.sums in
      rw (a, b, e)
