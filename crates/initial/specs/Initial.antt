-- Document 01, "Initial", with T-04 and T-07 of document 02.
use Rattle.std.specs.Prelude.{Bool, true, cond, ◌&&◌, is_some, List, [], ◌∷◌, ◌++◌, ℕ, zero, suc, ◌/◌, ◌%◌, eqb, ltb, get_or}
use Rattle.octets.specs.Lists.{part}
use Rattle.work.specs.Steps.{Step}
use Rattle.steps.specs.Made.{set_matched, set_comparison}
use Rattle.frame.specs.Declines.{pad_bytes}
use Rattle.list.specs.Ber.{entry_at, entry_id, next_place, place_count, is_formed, first_entry}
use Rattle.plaid_types.specs.Keys.{key_length_of, wide, str1_length}
use Rattle.plaid_types.specs.Cards.{no_session, no_set, Reply}
use Rattle.plaid_types.specs.declared.KeySetId.{KeySetId}
use Rattle.plaid_types.specs.declared.KeySetSlot.{KeySetSlot}
use Rattle.plaid_types.specs.declared.Session.{Session}
use Rattle.plaid_types.specs.declared.Card.{Card}

-- a place "compared with all eight slots", in order
abbrev pub slot_steps : Bool → KeySetId → List KeySetSlot → List Step
slot_steps present v [] = []
slot_steps present v (k ∷ ks) = set_comparison present v k.held k.id ∷ slot_steps present v ks

-- the first slot, counted from i, that matches a place; past the last where none does
abbrev pub first_slot : ℕ → Bool → KeySetId → List KeySetSlot → ℕ
first_slot i present v [] = i
first_slot i present v (k ∷ ks) = cond (set_matched present v k.held k.id) i (first_slot (suc i) present v ks)

-- the n places from place p of the data on: "empty slots and missing places included, which never match; a malformed list has only missing places"
unfoldable pub place_steps : List KeySetSlot → Bool → List ℕ → ℕ → ℕ → List Step
place_steps sets formed d p zero = []
place_steps sets formed d p (suc n) = slot_steps (formed && is_some (entry_at d p)) (entry_id (entry_at d p)) sets ++ place_steps sets formed d (next_place p (entry_at d p)) n

-- "the first entry that the card holds wins": its slot, or 8
unfoldable pub first_place : List KeySetSlot → Bool → List ℕ → ℕ → ℕ → ℕ
first_place sets formed d p zero = 8
first_place sets formed d p (suc n) =
    cond (eqb (first_slot 0 (formed && is_some (entry_at d p)) (entry_id (entry_at d p)) sets) 8)
    (first_place sets formed d (next_place p (entry_at d p)) n)
    (first_slot 0 (formed && is_some (entry_at d p)) (entry_id (entry_at d p)) sets)

-- "Exactly floor(Lc/4) places are compared"
unfoldable pub initial_steps : Card → List ℕ → List Step
initial_steps c d = place_steps c.sets (is_formed d) d (first_entry d) (place_count d)

unfoldable pub slot_of : Card → List ℕ → ℕ
slot_of c d = first_place c.sets (is_formed d) d (first_entry d) (place_count d)

-- "Refused (malformed or no match)"
abbrev pub accepts_initial : Card → List ℕ → Bool
accepts_initial c d = ltb (slot_of c d) 8

-- "STR1 = KeySetID, DivData, RND1, RND1"
unfoldable pub str1 : KeySetId → List ℕ → List ℕ → List ℕ
str1 id div rnd1 = id.0 / 256 ∷ id.0 % 256 ∷ (div ++ (rnd1 ++ rnd1))

-- "The output block is 00 02, the pad bytes, 00, those 50 bytes." T-04: "STR1 is then 50, 66 or 82 bytes"
unfoldable pub block_of : ℕ → List ℕ → List ℕ → List ℕ
block_of l fresh text = (0 ∷ 2 ∷ (pad_bytes l fresh ++ (0 ∷ []))) ++ text

-- a session that is open with a key set and RND1. T-07: "An open session now carries its FAKey instead of finding it by KeySetID"
abbrev pub opened_with : KeySetSlot → List ℕ → Session
opened_with k rnd1 = record { opened = true; id = k.id; rnd1 = wide rnd1; fa_key = k.fa_key }

-- "Accepted: .. RND1 is the first 16 of F; handle of that key set; session opens, replacing any other." T-04: "RND1, RND2 and KeysHash have L bytes
-- each"
abbrev pub accepted_initial : Card → List ℕ → List ℕ → KeySetSlot → Reply
accepted_initial c d fresh k =
    record {
      handle = k.handle;
      bytes = block_of (key_length_of c) fresh (str1 k.id c.div_data (part fresh 0 (key_length_of c)));
      steps = initial_steps c d;
      session = opened_with k (part fresh 0 (key_length_of c));
    }

-- "Refused ..: F stands for STR1, shill handle, no session."
abbrev pub refused_initial : Card → List ℕ → List ℕ → Reply
refused_initial c d fresh =
    record {
      handle = c.shill_handle;
      bytes = block_of (key_length_of c) fresh (part fresh 0 (str1_length (key_length_of c)));
      steps = initial_steps c d;
      session = no_session;
    }

unfoldable pub initial_reply : Card → List ℕ → List ℕ → Reply
initial_reply c d fresh = cond (accepts_initial c d) (accepted_initial c d fresh (get_or c.sets (slot_of c d) no_set)) (refused_initial c d fresh)
