-- Of the KeySetIDs that are listed, in any form that encodes them, the card answers for the first that it holds: the slot, whether the command is accepted,
-- and the reply; and two forms of one list get one answer. Assumes nothing.
use Rattle.std.specs.Prelude.{◌≡◌, refl, Bool, true, false, cond, None, List, [], ◌∷◌, ℕ, zero, suc, ◌≤◌, eqb, ltb, length, get_or}
use Rattle.std.proofs.Common.{sym, ap, subst, ◌∙◌, not-suc-le-zero, le_of_suc-le-suc, arith, eq-eqb, ne_eqb, lt-ltb, le-ltb}
use Rattle.std.proofs.lemmas.Bool.{false≢true}
use Rattle.std.proofs.lemmas.List.{length-map}
use Rattle.octets.specs.Lists.{part}
use Rattle.list.specs.Ber.{entry_at, place_count, first_entry}
use Rattle.list.specs.Encoding.{Encodes}
use Rattle.list.specs.Meaning.{Lists, ends, goes_on, encodes-formed, encodes-lists, encodes-few}
use Rattle.plaid_types.specs.Keys.{key_length_of}
use Rattle.plaid_types.specs.Cards.{no_set, Reply}
use Rattle.plaid_types.specs.declared.KeySetId.{KeySetId}
use Rattle.plaid_types.specs.declared.KeySetSlot.{KeySetSlot}
use Rattle.plaid_types.specs.declared.Card.{Card}
use Rattle.load.specs.Load.{some}
use Rattle.load.proofs.Laws.{Stocked, stocked-length}
use Rattle.initial.specs.Initial.{first_slot, first_place, slot_of, accepts_initial, str1, block_of, opened_with, accepted_initial, refused_initial, initial_reply}
use Rattle.reader_list.specs.List.{numbers}
use Rattle.session_initial.specs.Held.{held_in, held, first_of, first_held, slot-missing, Holds, slot-holds, slot-none}

-- what the places' look finds: nothing, or the slot of the first listed that is held
record Found (ss : List KeySetSlot) (ids : List KeySetId) (n : ℕ) : Type 0 where
  pub some-held : some (held_in ss) ids ≡ true → Holds ss n (get_or ids (first_of (held_in ss) ids) no_set.id)
  pub none-held : some (held_in ss) ids ≡ false → n ≡ 8

-- past the last entry nothing is found
end_by : (a n : ℕ) → a ≡ 8 → n ≡ 8 → cond (eqb a 8) n a ≡ 8
end_by a n e q = rw (eq-eqb a 8 e) q

place_end : (ss : List KeySetSlot) (d : List ℕ) (p n : ℕ) → length ss ≡ 8 → entry_at d p ≡ None → first_place ss true d p n ≡ 8
unfolding first_place
place_end ss d p zero l e = refl
place_end ss d p (suc n) l e =
    rw e (end_by (first_slot 0 false no_set.id ss) (first_place ss true d p n) (omega (arith, slot-missing 0 no_set.id ss)) (place_end ss d p n l e))

found-by :
    (ss : List KeySetSlot) (k : KeySetId) (ids : List KeySetId) (n : ℕ) (t : Bool)
    → length ss ≡ 8
    → held_in ss k ≡ t
    → Found ss ids n
    → Found ss (k ∷ ids) (cond (eqb (first_slot 0 true k ss) 8) n (first_slot 0 true k ss))
found-by ss k ids n true l e f =
    let h = slot-holds k ss l e in
    let b = h.below in
    rw (ne_eqb (first_slot 0 true k ss) 8 (λ z. omega arith)) (record { some-held = λ q. rw e h; none-held = λ q. absurd (false≢true (sym (rw e at q))) })
found-by ss k ids n false l e f =
    rw (eq-eqb (first_slot 0 true k ss) 8 (slot-none k ss l e)) (record { some-held = λ q. rw e (f.some-held (rw e at q)); none-held = λ q. f.none-held (rw e at q) })

place_found : (ss : List KeySetSlot) (d : List ℕ) (p : ℕ) (ids : List KeySetId) (n : ℕ) → length ss ≡ 8 → length ids ≤ n → Lists d p (numbers ids) → Found ss ids (first_place ss true d p n)
unfolding first_place
place_found ss d p [] n l h (ends e) = record { some-held = λ q. absurd (false≢true q); none-held = λ q. place_end ss d p n l e }
place_found ss d p (k ∷ ids) zero l h (goes_on e w) = absurd (not-suc-le-zero h)
place_found ss d p (k ∷ ids) (suc n) l h (goes_on {n = m} e w) =
    rw e (found-by ss k ids (first_place ss true d m n) (held_in ss k) l refl (place_found ss d m ids n l (le_of_suc-le-suc h) w))

-- the slot of a list, in whichever form the data encode it
slot-encoded : (c : Card) → Stocked c → (ids : List KeySetId) (d : List ℕ) → Encodes (numbers ids) d → Found c.sets ids (slot_of c d)
unfolding slot_of
slot-encoded c s ids d e =
    rw (encodes-formed e)
    (place_found c.sets d (first_entry d) ids (place_count d) s.sets-long (omega (arith, encodes-few e, length-map ids (λ (k : KeySetId). k.0))) (encodes-lists e))

below_by : (ss : List KeySetSlot) (ids : List KeySetId) (n : ℕ) (t : Bool) → some (held_in ss) ids ≡ t → Found ss ids n → ltb n 8 ≡ t
below_by ss ids n true e f = lt-ltb n 8 (f.some-held e).below
below_by ss ids n false e f = le-ltb n 8 (omega (arith, f.none-held e))

-- an initial command is accepted exactly if the card holds some listed KeySetID
pub list-accepted : (c : Card) → Stocked c → (ids : List KeySetId) (d : List ℕ) → Encodes (numbers ids) d → accepts_initial c d ≡ some (held c) ids
list-accepted c s ids d e = below_by c.sets ids (slot_of c d) (some (held c) ids) refl (slot-encoded c s ids d e)

-- and then its slot is the one that holds the first listed that the card holds, wherever in the card it stands
pub list-slot :
    (c : Card) → Stocked c → (ids : List KeySetId) (d : List ℕ) → Encodes (numbers ids) d → some (held c) ids ≡ true
    → Holds c.sets (slot_of c d) (get_or ids (first_held c ids) no_set.id)
list-slot c s ids d e q = (slot-encoded c s ids d e).some-held q

-- the reply r of a card with keys of l bytes answers for a slot that is held with KeySetID k
pub record Answers (l : ℕ) (c : Card) (fresh : List ℕ) (k : KeySetId) (slot : KeySetSlot) (r : Reply) : Type 0 where
  pub kept : slot.held ≡ true
  pub id : slot.id ≡ k
  pub bytes : r.bytes ≡ block_of l fresh (str1 k c.div_data (part fresh 0 l))
  pub handle : r.handle ≡ slot.handle
  pub session : r.session ≡ opened_with slot (part fresh 0 l)

answers_by :
    (c : Card) (d fresh : List ℕ) (k : KeySetId) (slot : KeySetSlot) (t : Bool)
    → t ≡ true
    → slot.held ≡ true
    → slot.id ≡ k
    → Answers (key_length_of c) c fresh k slot (cond t (accepted_initial c d fresh slot) (refused_initial c d fresh))
answers_by c d fresh k slot true e p q =
    let l : ℕ = key_length_of c in
    record { kept = p; id = q; bytes = ap (λ (i : KeySetId). block_of l fresh (str1 i c.div_data (part fresh 0 l))) q; handle = refl; session = refl }
answers_by c d fresh k slot false e p q = absurd (false≢true e)

-- the reply to a list of which the card holds some KeySetID: the block, the handle and the session are those of the first listed that it holds, with
-- the card's L
pub list-answered :
    (c : Card) → Stocked c → (ids : List KeySetId) (d fresh : List ℕ) → Encodes (numbers ids) d → some (held c) ids ≡ true
    → Answers c.key_length c fresh (get_or ids (first_held c ids) no_set.id) (get_or c.sets (slot_of c d) no_set) (initial_reply c d fresh)
unfolding initial_reply
list-answered c s ids d fresh e q =
    let a = list-slot c s ids d e q in
    let k : KeySetId = get_or ids (first_held c ids) no_set.id in
    let slot : KeySetSlot = get_or c.sets (slot_of c d) no_set in
    subst (λ (l : ℕ). Answers l c fresh k slot (initial_reply c d fresh)) (stocked-length c s)
    (answers_by c d fresh k slot (accepts_initial c d) (list-accepted c s ids d e ∙ q) a.kept a.id)

-- the form of the list is not seen: two encodings of it lead to one slot, and so to one block, handle and session
slots-alike : (ss : List KeySetSlot) (d d' : List ℕ) (p p' : ℕ) (ids : List ℕ) (n m : ℕ) → length ss ≡ 8 → length ids ≤ n → length ids ≤ m → Lists d p ids → Lists d' p' ids →
    first_place ss true d p n ≡ first_place ss true d' p' m
unfolding first_place
slots-alike ss d d' p p' [] n m l h k (ends e) (ends f) = place_end ss d p n l e ∙ sym (place_end ss d' p' m l f)
slots-alike ss d d' p p' (i ∷ ids) zero m l h k (goes_on e w) (goes_on f v) = absurd (not-suc-le-zero h)
slots-alike ss d d' p p' (i ∷ ids) (suc n) zero l h k (goes_on e w) (goes_on f v) = absurd (not-suc-le-zero k)
slots-alike ss d d' p p' (i ∷ ids) (suc n) (suc m) l h k (goes_on {n = q} e w) (goes_on {n = q'} f v) =
    rw (e, f) (ap (λ (x : ℕ). cond (eqb (first_slot 0 true (record { 0 = i }) ss) 8) x (first_slot 0 true (record { 0 = i }) ss)) (slots-alike ss d d' q q' ids n m l (le_of_suc-le-suc h) (le_of_suc-le-suc k) w v))

pub forms-slot : (c : Card) → length c.sets ≡ 8 → (ids d d' : List ℕ) → Encodes ids d → Encodes ids d' → slot_of c d ≡ slot_of c d'
unfolding slot_of
forms-slot c l ids d d' e f =
    rw (encodes-formed e, encodes-formed f)
    (slots-alike c.sets d d' (first_entry d) (first_entry d') ids (place_count d) (place_count d') l (encodes-few e) (encodes-few f) (encodes-lists e) (encodes-lists f))

-- what leaves the card, and the session
pub record Alike (r r' : Reply) : Type 0 where
  pub bytes : r.bytes ≡ r'.bytes
  pub handle : r.handle ≡ r'.handle
  pub session : r.session ≡ r'.session

alike-by : (c : Card) (d d' fresh : List ℕ) (slot : KeySetSlot) (t : Bool) →
    Alike (cond t (accepted_initial c d fresh slot) (refused_initial c d fresh)) (cond t (accepted_initial c d' fresh slot) (refused_initial c d' fresh))
alike-by c d d' fresh slot true = record { bytes = refl; handle = refl; session = refl }
alike-by c d d' fresh slot false = record { bytes = refl; handle = refl; session = refl }

pub forms-alike : (c : Card) → length c.sets ≡ 8 → (ids d d' fresh : List ℕ) → Encodes ids d → Encodes ids d' → Alike (initial_reply c d fresh) (initial_reply c d' fresh)
unfolding initial_reply
forms-alike c l ids d d' fresh e f = rw (forms-slot c l ids d d' e f) (alike-by c d d' fresh (get_or c.sets (slot_of c d') no_set) (accepts_initial c d'))
