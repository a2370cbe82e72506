-- Laws of a load of key sets onto a card: it looks at the sets counted, and of the card it changes the table alone. Assumes nothing.
use Rattle.std.specs.Prelude.{◌≡◌, Bool, cond, List, ℕ, ◌≤◌, length, take}
use Rattle.std.proofs.Math.Path.{refl, ap}
use Rattle.std.proofs.Common.{sym, ◌∙◌, subst, le_refl, eqb-true, eq-eqb, ne_eqb}
use Rattle.std.proofs.Math.Bool.{true, false}
use Rattle.std.proofs.Math.Seq.{take-length}
use Rattle.plaid_types.specs.Keys.{key_length_of}
use Rattle.plaid_types.specs.KeyLaws.{lawful-one}
use Rattle.plaid_types.specs.Cards.{with_session, with_tries, with_sets}
use Rattle.plaid_types.specs.declared.KeySet.{KeySet}
use Rattle.plaid_types.specs.declared.Session.{Session}
use Rattle.plaid_types.specs.declared.Tries.{Tries}
use Rattle.plaid_types.specs.declared.Card.{Card}
use Rattle.load.specs.Load.{miscounted, sets_refusal, table_of}
use Rattle.load.proofs.Laws.{counted, number-of, SetsRight, sets-right, Tabled, tabled, Stocked, stocked-sets}
use Rattle.load.specs.declared.Loaded.{Loaded}
use Rattle.key_change.specs.KeyChange.{change_refusal, changed, sets_loaded, takes_sets}

-- the number that the checks find, with L as it is found
pub number-found : (c : Card) (sets : List KeySet) (n : ℕ) {l r : ℕ} → l ≡ key_length_of c → r ≡ sets_refusal l sets n false c.shill_handle → r ≡ change_refusal c sets n
number-found c sets n e q = q ∙ ap (λ (m : ℕ). sets_refusal m sets n false c.shill_handle) e

-- its two answers
module _ (c : Card) (sets : List KeySet) (n : ℕ) where
  pub change-made : change_refusal c sets n ≡ 0 → changed c sets n ≡ record { number = 0; card = with_sets c (table_of (take n sets)) }
  unfolding changed
  change-made e = rw (eq-eqb (change_refusal c sets n) 0 e)

  pub change-refused : (change_refusal c sets n ≡ 0 → ⊥) → changed c sets n ≡ record { number = change_refusal c sets n; card = c }
  unfolding changed
  change-refused e = rw (ne_eqb (change_refusal c sets n) 0 e)

-- it looks at the sets counted, and at none where it refuses their count
module _ (c : Card) (a b : List KeySet) (n : ℕ) where
  counted-by : (t : Bool) → miscounted 8 n ≡ t → (n ≤ 8 → take n a ≡ take n b) → changed c a n ≡ changed c b n
  unfolding changed sets_refusal
  counted-by true e h = rw e
  counted-by false e h = rw (h (counted 8 n e).1)

  pub change-counted : (n ≤ 8 → take n a ≡ take n b) → changed c a n ≡ changed c b n
  change-counted = counted-by (miscounted 8 n) refl

-- of the caller's list: its number, and "a refused one keeps the old table"
module _ (c : Card) (sets : List KeySet) where
  pub sets-number : (sets_loaded c sets).number ≡ change_refusal c sets (length sets)
  unfolding sets_loaded changed
  sets-number = number-of (change_refusal c sets (length sets)) (with_sets c (table_of (take (length sets) sets))) c (takes_sets c sets) refl

  pub sets-refused : ((sets_loaded c sets).number ≡ 0 → ⊥) → (sets_loaded c sets).card ≡ c
  unfolding sets_loaded
  sets-refused n = ap (λ (r : Loaded). r.card) (change-refused c sets (length sets) (λ z. n (sets-number ∙ z)))

-- what it has shown that is not refused
pub change-right : (c : Card) (sets : List KeySet) → takes_sets c sets ≡ true → SetsRight (key_length_of c) sets (length sets) false c.shill_handle
change-right c sets e = sets-right (key_length_of c) sets (length sets) false c.shill_handle (eqb-true (change_refusal c sets (length sets)) 0 e)

-- the card afterwards: "changes only the table", or "keeps the old"
cases : (c : Card) (t : List KeySet) (r : ℕ) (b : Bool) → (cond {A = Loaded} b (record { number = 0; card = with_sets c (table_of t) }) (record { number = r; card = c })).card ≡ cond b (with_sets c (table_of t)) c
cases c t r true = refl
cases c t r false = refl

pub card-after : (c : Card) (sets : List KeySet) → (sets_loaded c sets).card ≡ cond (takes_sets c sets) (with_sets c (table_of sets)) c
unfolding sets_loaded changed
card-after c sets =
    ap (λ (t : List KeySet). (cond {A = Loaded} (takes_sets c sets) (record { number = 0; card = with_sets c (table_of t) }) (record { number = change_refusal c sets (length sets); card = c })).card) (take-length sets)
    ∙ cases c sets (change_refusal c sets (length sets)) (takes_sets c sets)

-- what holds of the card with a table that passes, and of the card as it was, holds of the card afterwards
pub after-by : (P : Card → Type 0) (c : Card) (sets : List KeySet) → (takes_sets c sets ≡ true → P (with_sets c (table_of sets))) → P c → P (sets_loaded c sets).card
after-by P c sets f k = subst P (sym (card-after c sets)) (by (takes_sets c sets) refl)
  where
    by : (t : Bool) → takes_sets c sets ≡ t → P (cond t (with_sets c (table_of sets)) c)
    by true e = f e
    by false e = k

-- nothing but the table is another
pub only-table : (c : Card) (sets : List KeySet) → (sets_loaded c sets).card ≡ with_sets c (sets_loaded c sets).card.sets
only-table c sets = after-by (λ (k : Card). k ≡ with_sets c k.sets) c sets (λ e. refl) refl

-- session and failed tries are neither looked at nor changed
pub in-state : (c : Card) (s : Session) (u : Tries) (sets : List KeySet) → (sets_loaded (with_tries (with_session c s) u) sets).card ≡ with_tries (with_session (sets_loaded c sets).card s) u
in-state c s u sets =
    card-after (with_tries (with_session c s) u) sets ∙ by (takes_sets c sets) ∙ ap (λ (k : Card). with_tries (with_session k s) u) (sym (card-after c sets))
  where
    by : (t : Bool) → cond t (with_sets (with_tries (with_session c s) u) (table_of sets)) (with_tries (with_session c s) u) ≡ with_tries (with_session (cond t (with_sets c (table_of sets)) c) s) u
    by true = refl
    by false = refl

-- a table that passes is a good one, against the card's L and shill handle
pub new-table : (c : Card) (sets : List KeySet) → takes_sets c sets ≡ true → Tabled (table_of sets) c.shill_handle
new-table c sets e =
    subst (λ (t : List KeySet). Tabled (table_of t) c.shill_handle) (take-length sets)
    (tabled (change-right c sets e) (lawful-one c.key_length) (le_refl (length sets)))

pub stocked-after : (c : Card) (sets : List KeySet) → Stocked c → Stocked (sets_loaded c sets).card
stocked-after c sets k = after-by (λ (e : Card). Stocked e) c sets (λ e. stocked-sets c (table_of sets) k (new-table c sets e)) k
