-- The loop of `compare_places`: what is left of the places' comparisons, with what was found so far, is all of them. Assumes nothing.
use mathlib.Core.Path.{◌≡◌, refl, sym, ap, ap₂, ◌∙◌}
use mathlib.Core.Bool.{Bool, true, false, cond, ◌&&◌}
use mathlib.Core.List.{List, [], ◌∷◌, ◌++◌}
use Prim.Native.Nat.{ℕ, zero, suc, ◌+◌, ◌-◌, ◌*◌, ◌<◌, ◌≤◌}
use native.Mathlib.Nat.{zero-add, add-zero, add_assoc, sub-zero}
use native.Mathlib.Omega.{arith}
use lib.Dec.{eqb}
use lib.ListN.{length}
use Rattle.work.specs.declared.Made.{Made}
use Rattle.work.specs.Steps.{Step, comparison, counted, sum_from}
use Rattle.work.specs.Laws.{sum_from-append, counted-append}
use Rattle.steps.specs.Made.{set_comparison}
use Rattle.steps.specs.Laws.{kept-start, kept-last}
use Rattle.std.specs.Prelude.{Option, is_some}
use Rattle.list.specs.Ber.{entry_at, entry_id, next_place}
use Rattle.list.specs.declared.Entry.{Entry}
use Rattle.plaid_types.specs.declared.KeySetId.{KeySetId}
use Rattle.plaid_types.specs.declared.KeySetSlot.{KeySetSlot}
use Rattle.initial.specs.Initial.{slot_steps, first_slot, place_steps, first_place}
use Rattle.initial.specs.Told.{slots_found, places_found}
use Rattle.initial.proofs.Laws.{counted-slots}

-- before place j of n, which stands at p; the first stands at p₀
pub record PlacesDone (sets : List KeySetSlot) (formed : Bool) (d : List ℕ) (p₀ n p j first count s : ℕ) : Type 0 where
  pub reach : j ≤ n
  pub few : count ≤ 8 * j
  pub counts : count + counted comparison (place_steps sets formed d p (n - j)) ≡ counted comparison (place_steps sets formed d p₀ n)
  pub sums : sum_from s (place_steps sets formed d p (n - j)) ≡ sum_from 0 (place_steps sets formed d p₀ n)
  pub firsts : cond (eqb first 8) (first_place sets formed d p (n - j)) first ≡ first_place sets formed d p₀ n

first-cases : (first f rest : ℕ) (b : Bool) → eqb first 8 ≡ b → cond (eqb (cond (eqb first 8) f first) 8) rest (cond (eqb first 8) f first) ≡ cond (eqb first 8) (cond (eqb f 8) rest f) first
first-cases first f rest true e = simp e
first-cases first f rest false e = simp e

-- a place adds a comparison for each slot
pub count-slots : {f : Made ℕ} (present : Bool) (v : KeySetId) (s : ℕ) (sets : List KeySetSlot) → length sets ≡ 8 → f ≡ slots_found present v sets s → f.count ≡ 8
count-slots present v s sets l e = ap (λ (x : Made ℕ). x.count) e ∙ counted-slots comparison present v sets ∙ omega arith

-- a malformed list has only missing places, wherever the look starts
slots-missing : (v w : KeySetId) (sets : List KeySetSlot) → slot_steps false v sets ≡ slot_steps false w sets
slots-missing v w [] = refl
slots-missing v w (k ∷ sets) = ap (λ (x : List Step). set_comparison false v k.held k.id ∷ x) (slots-missing v w sets)

slot-missing : (v w : KeySetId) (i : ℕ) (sets : List KeySetSlot) → first_slot i false v sets ≡ first_slot i false w sets
slot-missing v w i [] = refl
slot-missing v w i (k ∷ sets) = slot-missing v w (suc i) sets

places-missing : (sets : List KeySetSlot) (d : List ℕ) (p q n : ℕ) → place_steps sets false d p n ≡ place_steps sets false d q n
unfolding place_steps
places-missing sets d p q zero = refl
places-missing sets d p q (suc n) = ap₂ ◌++◌ (slots-missing (entry_id (entry_at d p)) (entry_id (entry_at d q)) sets) (places-missing sets d (next_place p (entry_at d p)) (next_place q (entry_at d q)) n)

place-missing : (sets : List KeySetSlot) (d : List ℕ) (p q n : ℕ) → first_place sets false d p n ≡ first_place sets false d q n
unfolding first_place
place-missing sets d p q zero = refl
place-missing sets d p q (suc n) =
    ap₂ (λ (x y : ℕ). cond (eqb x 8) y x) (slot-missing (entry_id (entry_at d p)) (entry_id (entry_at d q)) 0 sets) (place-missing sets d (next_place p (entry_at d p)) (next_place q (entry_at d q)) n)

pub places-from : (sets : List KeySetSlot) (formed : Bool) (d : List ℕ) (p q n : ℕ) → places_found sets formed d (cond formed p q) n ≡ places_found sets formed d p n
places-from sets true d p q n = refl
places-from sets false d p q n = rw (places-missing sets d q p n, place-missing sets d q p n)

module _ (sets : List KeySetSlot) (formed : Bool) (d : List ℕ) where
  steps_next : (p m : ℕ) → place_steps sets formed d p (suc m) ≡ slot_steps (formed && is_some (entry_at d p)) (entry_id (entry_at d p)) sets ++ place_steps sets formed d (next_place p (entry_at d p)) m
  unfolding place_steps
  steps_next p m = refl

  first_next : (p m : ℕ) → first_place sets formed d p (suc m) ≡
      cond (eqb (first_slot 0 (formed && is_some (entry_at d p)) (entry_id (entry_at d p)) sets) 8) (first_place sets formed d (next_place p (entry_at d p)) m) (first_slot 0 (formed && is_some (entry_at d p)) (entry_id (entry_at d p)) sets)
  unfolding first_place
  first_next p m = refl

  pub places-start : (p n : ℕ) → PlacesDone sets formed d p n p 0 8 0 0
  places-start p n =
      record {
        reach = omega arith;
        few = omega arith;
        counts = rw sub-zero (zero-add _);
        sums = rw sub-zero;
        firsts = rw sub-zero (kept-start 8 _);
      }

  -- a turn, where the entry at p is already named e
  turn :
      {p₀ n p j first count s : ℕ} (e : Option Entry) (f : Made ℕ)
      → length sets ≡ 8
      → j < n
      → e ≡ entry_at d p
      → f ≡ slots_found (formed && is_some e) (entry_id e) sets s
      → PlacesDone sets formed d p₀ n p j first count s
      → PlacesDone sets formed d p₀ n (next_place p e) (j + 1) (cond (eqb first 8) f.value first) (count + f.count) f.sum
  turn {p₀} {n} {p} {j} {first} {count} {s} e f l h en fn q =
      let k : n - j ≡ suc (n - (j + 1)) = omega arith in
      let now : List Step = slot_steps (formed && is_some e) (entry_id e) sets in
      let rest : List Step = place_steps sets formed d (next_place p e) (n - (j + 1)) in
      let split : place_steps sets formed d p (n - j) ≡ now ++ rest =
      ap (place_steps sets formed d p) k ∙ steps_next p (n - (j + 1)) ∙ rw en in
      let found : ℕ = first_slot 0 (formed && is_some e) (entry_id e) sets in
      let more : ℕ = first_place sets formed d (next_place p e) (n - (j + 1)) in
      let look : first_place sets formed d p (n - j) ≡ cond (eqb found 8) more found =
      ap (first_place sets formed d p) k ∙ first_next p (n - (j + 1)) ∙ rw en in
      let eight : f.count ≡ 8 = count-slots (formed && is_some e) (entry_id e) s sets l fn in
      record {
        reach = omega arith;
        few = omega (arith, q.few);
        counts =
            add_assoc count f.count (counted comparison rest)
            ∙ ap (λ (x : ℕ). count + x) (ap (λ (x : ℕ). x + counted comparison rest) (ap (λ (x : Made ℕ). x.count) fn) ∙ sym (counted-append comparison now rest))
            ∙ ap (λ (x : List Step). count + counted comparison x) (sym split)
            ∙ q.counts;
        sums =
            ap (λ (x : Made ℕ). sum_from x.sum rest) fn
            ∙ sym (sum_from-append s now rest)
            ∙ ap (sum_from s) (sym split)
            ∙ q.sums;
        firsts =
            ap (λ (x : Made ℕ). cond (eqb (cond (eqb first 8) x.value first) 8) more (cond (eqb first 8) x.value first)) fn
            ∙ first-cases first found more (eqb first 8) refl
            ∙ ap (λ (x : ℕ). cond (eqb first 8) x first) (sym look)
            ∙ q.firsts;
      }

  pub places-turn :
      {p₀ n p j first count s next place : ℕ} {present : Bool} {v : KeySetId} {e : Option Entry} {f : Made ℕ}
      → length sets ≡ 8
      → j < n
      → PlacesDone sets formed d p₀ n p j first count s
      → e ≡ entry_at d p
      → present ≡ (formed && is_some e)
      → v ≡ entry_id e
      → f ≡ slots_found present v sets s
      → next ≡ cond (eqb first 8) f.value first
      → place ≡ next_place p e
      → PlacesDone sets formed d p₀ n place (j + 1) next (count + f.count) f.sum
  places-turn {p₀} {n} {p} {j} {first} {count} {s} {next} {place} {present} {v} {e} {f} l h q en pn vn fn g w =
      rw (g, w) (turn e f l h en (fn ∙ ap₂ (λ (b : Bool) (i : KeySetId). slots_found b i sets s) pn vn) q)

  pub places-end :
      {p₀ n p j first count s : ℕ}
      → n ≤ j
      → PlacesDone sets formed d p₀ n p j first count s
      → ◌≡◌ {A = Made ℕ} (record { value = first; count = count; sum = s }) (places_found sets formed d p₀ n)
  unfolding place_steps first_place
  places-end {p₀} {n} {p} {j} {first} {count} {s} h q =
      let z : n - j ≡ 0 = omega arith in
      let a : first ≡ first_place sets formed d p₀ n = sym (kept-last 8 first) ∙ rw z at q.firsts in
      let b : count ≡ counted comparison (place_steps sets formed d p₀ n) = sym (add-zero count) ∙ rw z at q.counts in
      let e : s ≡ sum_from 0 (place_steps sets formed d p₀ n) = rw z at q.sums in
      rw (a, b, e)
