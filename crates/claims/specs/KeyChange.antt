-- T-07, KEY CHANGE WHILE A CARD IS IN THE SLOT, one claim, of the card that a successful load and any list left. `key-change` of `KeyChangeHolds.antt`
-- is its one theorem. That "its promise mean[s] the table at the initial command" stands in `Session.antt`, and that "A list may now contain loads" in
-- `Demand3.antt`.
use Rattle.std.specs.Prelude.{◌≡◌, false, List, ◌∷◌, ◌++◌, map, ℕ}
use Rattle.plaid_types.specs.Cards.{with_sets}
use Rattle.plaid_types.specs.declared.KeySet.{KeySet}
use Rattle.plaid_types.specs.declared.Card.{Card}
use Rattle.key_change.specs.KeyChange.{sets_loaded}
use Rattle.card.specs.Lists.{Call, outcome_of, bytes_of, Place, command, key_sets, card_after, is_initial}
use Rattle.plaid.specs.Interface.{load_of}
use Rattle.plaid.specs.declared.Given.{Given}
use Rattle.claims.specs.Load.{Load, card_of, sets_at}

-- a call hands back and sends on k what it does on c, and leaves the same card but for the table, which stays
pub record EndsAs (c k : Card) (x : Call) : Type 0 where
  pub answer : (outcome_of k x).answer ≡ (outcome_of c x).answer
  pub bytes : bytes_of k x ≡ bytes_of c x
  pub sum : (outcome_of k x).sum ≡ (outcome_of c x).sum
  pub card : (outcome_of k x).card ≡ with_sets (outcome_of c x).card k.sets

module _ (l : Load) (ps : List Place) where
  abbrev pub card : Card
  card = card_after (card_of l) ps

  pub record KeyChange : Type 0 where
    -- "A new load of key sets .. changes only the table"
    pub only-table : (sets : List KeySet) → (sets_loaded card sets).card ≡ with_sets card (sets_loaded card sets).card.sets
    -- "A load has a first one's key set checks (1, 22, 2, 3)": where it is refused, so is, with that number, a first load of these sets with the card's L
    -- and shill handle and a shill key of L bytes, whatever else that is given
    pub checks :
        (sets : List KeySet) (given : Given) (area : List ℕ) → given.key_length ≡ l.given.key_length → given.shill_handle ≡ l.given.shill_handle →
        given.shill_key.length ≡ given.key_length → ((sets_loaded card sets).number ≡ 0 → ⊥) → (load_of sets given area).number ≡ (sets_loaded card sets).number
    -- and where such a first load is not refused, it is not, and makes the same table
    pub table :
        (m : Load) → m.given.key_length ≡ l.given.key_length → m.given.shill_handle ≡ l.given.shill_handle →
        ((sets_loaded card m.sets).number ≡ 0) × ((sets_loaded card m.sets).card.sets ≡ (card_of m).sets)
    -- "and a refused one keeps the old table"
    pub refused : (sets : List KeySet) → ((sets_loaded card sets).number ≡ 0 → ⊥) → (sets_loaded card sets).card ≡ card
    -- "The session ends under the old key": a final command ends as it would have without the loads before it
    pub ends : (ss : List (List KeySet)) (x : Call) → is_initial x ≡ false → EndsAs card (card_after card (map key_sets ss)) x
    -- "and the next one uses the new table": behind a load that is not refused, and any calls, the key sets there are those that it was given
    pub next : (sets : List KeySet) (xs : List Call) → (sets_loaded card sets).number ≡ 0 → sets_at l (ps ++ (key_sets sets ∷ map command xs)) ≡ sets

-- the claim
abbrev pub KeyChangeClaim : Type 0
KeyChangeClaim = (l : Load) (ps : List Place) → KeyChange l ps
