-- Which KeySetIDs a card holds, the slot that holds one, and the first of a list that it holds. Assumes nothing.
use Rattle.std.specs.Prelude.{◌≡◌, refl, Bool, true, false, cond, ◌||◌, List, [], ◌∷◌, ℕ, zero, suc, ◌+◌, ◌<◌, eqb, ltb, length, get_or}
use Rattle.std.proofs.Common.{sym, ap, ◌∙◌, true≢false, not-suc-le-zero, le_of_suc-le-suc, arith, eqb-true, lt-ltb, le-ltb}
use Rattle.std.proofs.Math.Bool.{and-eq-true_iff}
use Rattle.std.proofs.lemmas.Bool.{false≢true}
use Rattle.steps.specs.Made.{set_matched}
use Rattle.plaid_types.specs.Cards.{no_set}
use Rattle.plaid_types.specs.declared.KeySetId.{KeySetId}
use Rattle.plaid_types.specs.declared.KeySetSlot.{KeySetSlot}
use Rattle.plaid_types.specs.declared.Card.{Card}
use Rattle.load.specs.Load.{some}
use Rattle.load.proofs.Laws.{Stocked, neither}
use Rattle.initial.specs.Initial.{first_slot}

-- whether some slot is held with KeySetID k
abbrev pub held_in : List KeySetSlot → KeySetId → Bool
held_in [] k = false
held_in (s ∷ ss) k = set_matched true k s.held s.id || held_in ss k

abbrev pub held : Card → KeySetId → Bool
held c k = held_in c.sets k

-- the place of the first of the list for which p holds; the list's length where there is none
abbrev pub first_of : (KeySetId → Bool) → List KeySetId → ℕ
first_of p [] = 0
first_of p (k ∷ ids) = cond (p k) 0 (suc (first_of p ids))

-- the place of the first listed KeySetID that the card holds
abbrev pub first_held : Card → List KeySetId → ℕ
first_held c ids = first_of (held c) ids

-- a KeySetID is its number
pub same_id : (a b : KeySetId) → a.0 ≡ b.0 → a ≡ b
same_id a b e = λ i. record { 0 = e i }

-- slot n, counted from i, is held with KeySetID k
record HeldAt (i : ℕ) (k : KeySetId) (ss : List KeySetSlot) (n : ℕ) : Type 0 where
  pub j : ℕ
  pub is : n ≡ i + j
  pub within : j < length ss
  pub kept : (get_or ss j no_set).held ≡ true
  pub id : (get_or ss j no_set).id ≡ k

held-later : (i : ℕ) (k : KeySetId) (n : ℕ) (s : KeySetSlot) (ss : List KeySetSlot) → HeldAt (suc i) k ss n → HeldAt i k (s ∷ ss) n
held-later i k n s ss h =
    let e = h.is in
    let w = h.within in
    record { j = suc h.j; is = omega arith; within = omega arith; kept = h.kept; id = h.id }

held_by :
    (i : ℕ) (k : KeySetId) (s : KeySetSlot) (ss : List KeySetSlot) (n : ℕ) (t : Bool)
    → set_matched true k s.held s.id ≡ t
    → (t || held_in ss k) ≡ true
    → (held_in ss k ≡ true → HeldAt (suc i) k ss n)
    → HeldAt i k (s ∷ ss) (cond t i n)
held_by i k s ss n true e q f =
    let a = (and-eq-true_iff s.held (eqb k.0 s.id.0)).0 e in
    record { j = 0; is = omega arith; within = omega arith; kept = a.0; id = same_id s.id k (sym (eqb-true k.0 s.id.0 a.1)) }
held_by i k s ss n false e q f = held-later i k n s ss (f q)

held_at : (i : ℕ) (k : KeySetId) (ss : List KeySetSlot) → held_in ss k ≡ true → HeldAt i k ss (first_slot i true k ss)
held_at i k [] q = absurd (false≢true q)
held_at i k (s ∷ ss) q =
    held_by i k s ss (first_slot (suc i) true k ss) (set_matched true k s.held s.id) refl q (held_at (suc i) k ss)

-- where none is, the look ends past the last slot
none-by : (i : ℕ) (n m : ℕ) (t : Bool) → t ≡ false → n ≡ suc i + m → cond t i n ≡ i + suc m
none-by i n m true e q = absurd (true≢false e)
none-by i n m false e q = omega arith

not-held : (i : ℕ) (k : KeySetId) (ss : List KeySetSlot) → held_in ss k ≡ false → first_slot i true k ss ≡ i + length ss
not-held i k [] q = omega arith
not-held i k (s ∷ ss) q =
    let a = neither (set_matched true k s.held s.id) (held_in ss k) q in
    none-by i (first_slot (suc i) true k ss) (length ss) (set_matched true k s.held s.id) a.0 (not-held (suc i) k ss a.1)

-- and so it does for a missing place
pub slot-missing : (i : ℕ) (v : KeySetId) (ss : List KeySetSlot) → first_slot i false v ss ≡ i + length ss
slot-missing i v [] = omega arith
slot-missing i v (s ∷ ss) = omega (arith, slot-missing (suc i) v ss)

-- slot n of the eight is held with KeySetID k
pub record Holds (ss : List KeySetSlot) (n : ℕ) (k : KeySetId) : Type 0 where
  pub below : n < 8
  pub kept : (get_or ss n no_set).held ≡ true
  pub id : (get_or ss n no_set).id ≡ k

holds_by : (k : KeySetId) (n : ℕ) (ss : List KeySetSlot) → length ss ≡ 8 → HeldAt 0 k ss n → Holds ss n k
holds_by k n ss l h =
    let e : n ≡ h.j = omega (arith, h.is) in
    let w = h.within in
    record {
      below = omega arith;
      kept = ap (λ (m : ℕ). (get_or ss m no_set).held) e ∙ h.kept;
      id = ap (λ (m : ℕ). (get_or ss m no_set).id) e ∙ h.id;
    }

pub slot-holds : (k : KeySetId) (ss : List KeySetSlot) → length ss ≡ 8 → held_in ss k ≡ true → Holds ss (first_slot 0 true k ss) k
slot-holds k ss l q = holds_by k (first_slot 0 true k ss) ss l (held_at 0 k ss q)

pub slot-none : (k : KeySetId) (ss : List KeySetSlot) → length ss ≡ 8 → held_in ss k ≡ false → first_slot 0 true k ss ≡ 8
slot-none k ss l q = omega (arith, not-held 0 k ss q)

-- the look for a KeySetID ends below 8 exactly if the card holds it
below_by : (k : KeySetId) (ss : List KeySetSlot) (t : Bool) → length ss ≡ 8 → held_in ss k ≡ t → ltb (first_slot 0 true k ss) 8 ≡ t
below_by k ss true l q = lt-ltb (first_slot 0 true k ss) 8 (slot-holds k ss l q).below
below_by k ss false l q = le-ltb (first_slot 0 true k ss) 8 (omega (arith, slot-none k ss l q))

pub slot-found : (c : Card) → Stocked c → (k : KeySetId) → ltb (first_slot 0 true k c.sets) 8 ≡ held c k
slot-found c s k = below_by k c.sets (held c k) s.sets-long refl

-- the first of a list for which p holds: it is in the list, p holds for it, and for none before it
pub record IsFirst (p : KeySetId → Bool) (ids : List KeySetId) (n : ℕ) : Type 0 where
  pub within : n < length ids
  pub good : p (get_or ids n no_set.id) ≡ true
  pub before : (i : ℕ) → i < n → p (get_or ids i no_set.id) ≡ false

before-cons : (p : KeySetId → Bool) (k : KeySetId) (ids : List KeySetId) (n : ℕ) → p k ≡ false → IsFirst p ids n → (i : ℕ) → i < suc n → p (get_or (k ∷ ids) i no_set.id) ≡ false
before-cons p k ids n e f zero h = e
before-cons p k ids n e f (suc i) h = f.before i (le_of_suc-le-suc h)

first_by :
    (p : KeySetId → Bool) (k : KeySetId) (ids : List KeySetId) (t : Bool)
    → p k ≡ t
    → (t || some p ids) ≡ true
    → (some p ids ≡ true → IsFirst p ids (first_of p ids))
    → IsFirst p (k ∷ ids) (cond t 0 (suc (first_of p ids)))
first_by p k ids true e q f = record { within = omega arith; good = e; before = λ i h. absurd (not-suc-le-zero h) }
first_by p k ids false e q f =
    let r = f q in
    let w = r.within in
    record { within = omega arith; good = r.good; before = before-cons p k ids (first_of p ids) e r }

pub first-is : (p : KeySetId → Bool) (ids : List KeySetId) → some p ids ≡ true → IsFirst p ids (first_of p ids)
first-is p [] q = absurd (false≢true q)
first-is p (k ∷ ids) q = first_by p k ids (p k) refl q (first-is p ids)

-- where there is none it is the length
none_first : (p : KeySetId → Bool) (ids : List KeySetId) (t : Bool) → t ≡ false → first_of p ids ≡ length ids → cond t 0 (suc (first_of p ids)) ≡ suc (length ids)
none_first p ids true e q = absurd (true≢false e)
none_first p ids false e q = ap suc q

pub first-none : (p : KeySetId → Bool) (ids : List KeySetId) → some p ids ≡ false → first_of p ids ≡ length ids
first-none p [] q = refl
first-none p (k ∷ ids) q = let a = neither (p k) (some p ids) q in none_first p ids (p k) a.0 (first-none p ids a.1)

-- of a list with some KeySetID that the card holds, first_held is the place of the first
pub first-held : (c : Card) (ids : List KeySetId) → some (held c) ids ≡ true → IsFirst (held c) ids (first_held c ids)
first-held c ids q = first-is (held c) ids q
