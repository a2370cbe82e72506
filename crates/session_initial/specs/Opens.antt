-- Whatever data an accepted initial command has, its slot is held: the session opens for a key set of the card. Assumes nothing.
use Rattle.std.specs.Prelude.{◌≡◌, refl, Bool, true, false, cond, ◌&&◌, is_some, List, ℕ, zero, suc, ◌<◌, eqb, length, get_or}
use Rattle.std.proofs.Common.{arith, ltb-true}
use Rattle.list.specs.Ber.{entry_at, entry_id, next_place, place_count, is_formed, first_entry}
use Rattle.plaid_types.specs.Cards.{no_set}
use Rattle.plaid_types.specs.declared.KeySetId.{KeySetId}
use Rattle.plaid_types.specs.declared.KeySetSlot.{KeySetSlot}
use Rattle.plaid_types.specs.declared.Card.{Card}
use Rattle.load.proofs.Laws.{Stocked, set_at}
use Rattle.initial.specs.Initial.{first_slot, first_place, slot_of, accepts_initial}
use Rattle.session_initial.specs.Held.{held_in, slot-missing, Holds, slot-holds, slot-none}

-- a slot that a place's look finds is held
found-held :
    (ss : List KeySetSlot) (present : Bool) (k : KeySetId) (t : Bool)
    → length ss ≡ 8
    → held_in ss k ≡ t
    → first_slot 0 present k ss < 8
    → (get_or ss (first_slot 0 present k ss) no_set).held ≡ true
found-held ss false k t l e h = absurd (omega (arith, slot-missing 0 k ss))
found-held ss true k true l e h = (slot-holds k ss l e).kept
found-held ss true k false l e h = absurd (omega (arith, slot-none k ss l e))

place-by :
    (ss : List KeySetSlot) (a n : ℕ) (t : Bool)
    → (a < 8 → (get_or ss a no_set).held ≡ true)
    → (n < 8 → (get_or ss n no_set).held ≡ true)
    → cond t n a < 8
    → (get_or ss (cond t n a) no_set).held ≡ true
place-by ss a n true f g h = g h
place-by ss a n false f g h = f h

place-held :
    (ss : List KeySetSlot) (formed : Bool) (d : List ℕ) (p n : ℕ)
    → length ss ≡ 8
    → first_place ss formed d p n < 8
    → (get_or ss (first_place ss formed d p n) no_set).held ≡ true
unfolding first_place
place-held ss formed d p zero l h = absurd (omega arith)
place-held ss formed d p (suc n) l h =
    place-by ss (first_slot 0 (formed && is_some (entry_at d p)) (entry_id (entry_at d p)) ss) (first_place ss formed d (next_place p (entry_at d p)) n)
    (eqb (first_slot 0 (formed && is_some (entry_at d p)) (entry_id (entry_at d p)) ss) 8)
    (λ q. found-held ss (formed && is_some (entry_at d p)) (entry_id (entry_at d p)) (held_in ss (entry_id (entry_at d p))) l refl q)
    (λ q. place-held ss formed d (next_place p (entry_at d p)) n l q) h

pub accepted-holds : (c : Card) → Stocked c → (d : List ℕ) → accepts_initial c d ≡ true → Holds c.sets (slot_of c d) (set_at c (slot_of c d)).id
unfolding slot_of
accepted-holds c s d e =
    let h : slot_of c d < 8 = ltb-true (slot_of c d) 8 e in
    record { below = h; kept = place-held c.sets (is_formed d) d (first_entry d) (place_count d) s.sets-long h; id = refl }
