-- Every edge of document 01 that is marked P, and every one of T-01, T-02 and T-04, holds. Assumes nothing.
use Rattle.std.specs.Prelude.{◌≡◌, Bool, false, cond, ◌&&◌, Some, ℕ, zero, suc, ◌+◌, ◌-◌, ◌*◌, ◌/◌, ◌%◌, ◌<◌, ◌≤◌, eqb, get_or, take, drop}
use Rattle.std.proofs.Math.Path.{refl, sym, ap}
use Rattle.std.proofs.Common.{subst, ap₂, ◌∙◌, length-append, length-drop, get_or-drop, get_or-take, get_or-append-add}
use Rattle.std.proofs.Math.Bool.{true, not}
use mathlib.Core.List.{List, [], ◌∷◌, ◌++◌, append_assoc, append-nil}
use Rattle.std.proofs.Math.Option
use Rattle.std.proofs.Math.Option.{Option, none as unanswered}
use native.Mathlib.Omega.{arith}
use borrow.Author.Tests.{eq-eqb, ne_eqb, lt-ltb, le-ltb, le-leb}
use Rattle.std.proofs.Math.Dec.{ltb}
use Rattle.std.proofs.Math.ListN.{length, replicate, length-take, length-replicate, get_or-map}
use Rattle.std.proofs.lemmas.List.{length-map, get_or-replicate}
use Rattle.octets.specs.Lists.{part}
use Rattle.octets.specs.Same.{same_of}
use Rattle.octets.specs.Writes.{over-front}
use Rattle.aes.specs.Aes.{aes_under}
use Rattle.cbc.specs.Cbc.{zeros, encrypted}
use Rattle.padding.specs.Method2.{zero_bytes, padded, rightly, unpadded}
use Rattle.padding.specs.Laws.{Seen, seen, rightly-seen, seen_none, unpadded-padded, unpadded-lt, text_end-le}
use Rattle.std.specs.Prelude.{Some, None}
use Rattle.key_expansion.specs.KeyLength.{is_key_length, length-sixteen}
use Rattle.plaid_types.specs.Keys as keys
use Rattle.plaid_types.specs.Keys.{key_length_of, str1_length}
use Rattle.plaid_types.specs.Tries.{is_interface, tries_after}
use Rattle.plaid_types.specs.Cards.{Reply}
use Rattle.plaid_types.specs.declared.KeySetId.{KeySetId}
use Rattle.plaid_types.specs.declared.KeySetSlot.{KeySetSlot}
use Rattle.plaid_types.specs.declared.Mode.{Mode}
use Rattle.plaid_types.specs.declared.ModeSlot.{ModeSlot}
use Rattle.plaid_types.specs.declared.Session.{Session}
use Rattle.plaid_types.specs.declared.Tries.{Tries}
use Rattle.plaid_types.specs.declared.Card.{Card}
use Rattle.load.specs.Load.{past_mode, reply_size_for, refusal, sets_refusal, modes_refusal, loaded}
use Rattle.load.proofs.Laws.{size_below, stocked-state}
use Rattle.frame.specs.Frame.{frame_of, initial_ins, ins_of, lc_of, known_ins, whole, status_of, data_of}
use Rattle.frame.specs.Laws.{frame_byte}
use Rattle.frame.specs.Framed.{framed-status, framed-data}
use Rattle.frame.specs.Declines.{no_zero, pad_bytes, verdict}
use Rattle.list.specs.Ber.{unsigned, fitting, length_at, entry_at, entry_id, next_place, head, walked, ended, listed, is_formed, first_entry, place_count}
use Rattle.list.specs.Laws.{no-FF}
use Rattle.initial.specs.Initial.{first_slot, first_place, slot_of, accepts_initial, str1, block_of, opened_with, initial_reply}
use Rattle.final_command.specs.Final.{text_of, deciphered_text, card_keys_hash, mode_of, accepting, accepts_final, body_of, final_reply}
use Rattle.card.specs.Command.{reply_to, refuses_final, verdict_on, outcome, answer_bytes}
use Rattle.card.specs.Lists.{Call, outcome_of, bytes_of, command, run, accepted, Shape, shape_of, initial_shape, final_shape, formulas}
use Rattle.card.specs.Demand3.{list-formulas}
use Rattle.reader_seal.specs.Seal.{lc_of as lcFor, payload_most, final_command, seal_command, seal_number, sealed_of, seal_output}
use Rattle.reader_seal.specs.Laws.{length-seal_command, seal-done, seal-written}
use Rattle.reader_seal.specs.declared.Sealed.{Sealed}
use Rattle.session_initial.specs.Held.{Holds, slot-holds, slot-missing}
use Rattle.plaid.specs.Interface.{load_of}
use Rattle.session_final.specs.Reply.{refused-reply}
use Rattle.session_final.specs.Accepts.{SixConditions, six-conditions}
use Rattle.claims.specs.Load.{Load, card_of, record_given, body_given}
use Rattle.claims.specs.Loaded.{is-a-load, sound-state, set-slot, slot-given, sets-most, mode-slot, record-long, size-given, div-given, handle-given, length-is, shill-held}
use Rattle.claims.specs.Loads.{set, mode, given, area, load-of, load_one, one_key, two-keys}
use Rattle.claims.specs.Kept.{left}
use Rattle.claims.specs.Reply.{named-answer}
use Rattle.claims.specs.Found.{held-there}
use Rattle.claims.specs.Edges.{Of, OfAll, Gave, framed, Lent, in_state, TypedSession, EachCall, Answered, Refused, FinalCounts, FinalRefused, Final, Counts, Shortest, Records, Longest, Size, lengths, Replies, Seals, SealDeclines, Good, Bad, edges, All, end, ◌and◌}

-- a KeySetID by its number
abbrev id_of : ℕ → KeySetId
id_of k = record { 0 = k }

-- loads with the properties of the edges: set 1, with one record, for keys of k bytes, or with two
one-record : (k n : ℕ) → is_key_length k ≡ true → 0 < n → n ≤ 64 → (l : Load) × ((lengths l ≡ n ∷ []) × Gave l 0 1 × (l.given.key_length ≡ k))
unfolding set mode given load-of load_one
one-record k n three h m = (load_one k n three h m, (refl, record { within = omega arith; id = refl }, refl))

load-16 : (l : Load) × ((lengths l ≡ 16 ∷ []) × Gave l 0 1 × (l.given.key_length ≡ 16))
load-16 = one-record 16 16 (length-sixteen refl) (omega arith) (omega arith)

two_records : (m n : ℕ) → (load_of (set 16 1 ∷ []) (given 16 (mode 7 0 m ∷ mode 8 m n ∷ [])) (area m n)).number ≡ 0 → (l : Load) × (lengths l ≡ m ∷ n ∷ [])
unfolding mode given load-of
two_records m n e = (load-of 16 (set 16 1 ∷ []) (mode 7 0 m ∷ mode 8 m n ∷ []) m n (omega arith) (one_key 16 1 (omega arith)) e, refl)

load-4-16 : (l : Load) × (lengths l ≡ 4 ∷ 16 ∷ [])
unfolding set mode given area load_of loaded refusal sets_refusal modes_refusal is_key_length
load-4-16 = two_records 4 16 refl

load-15-64 : (l : Load) × (lengths l ≡ 15 ∷ 64 ∷ [])
unfolding set mode given area load_of loaded refusal sets_refusal modes_refusal is_key_length
load-15-64 = two_records 15 64 refl

load-two : (l : Load) × (Gave l 0 2 × Gave l 1 5)
unfolding set mode given area load-of load_of loaded refusal sets_refusal modes_refusal is_key_length
load-two = (
  load-of 16 (set 16 2 ∷ set 16 5 ∷ []) (mode 7 0 16 ∷ []) 0 16 (omega arith) (two-keys 16 2 5 (omega arith) (omega arith)) refl,
  (record { within = omega arith; id = refl }, record { within = omega arith; id = refl }),
)

-- there are such fresh bytes and outputs
pub some-lent : (l : ℕ) → Lent l 1 (replicate 253 1) 256
unfolding is_interface
some-lent l = record { interface-known = refl; fresh-long = refl; pads-nonzero = λ i h k e. let q = sym (get_or-replicate 253 i 1 0 k) ∙ e in omega arith; room-enough = omega arith }

-- a call is not declined that is lent what it needs and whose frame has no fault
no_zero-holds : (s : List ℕ) → ((i : ℕ) → i < length s → get_or s i 0 ≡ 0 → ⊥) → no_zero s ≡ true
no_zero-holds [] f = refl
no_zero-holds (b ∷ s) f = rw (ne_eqb b 0 (f 0 (omega arith))) (no_zero-holds s (λ i h. f (suc i) (omega arith)))

passes : (i l : ℕ) (cmd fresh : List ℕ) (room : ℕ) → Lent l i fresh room → status_of (length cmd) (frame_of cmd) ≡ 0x9000 → (verdict_on i l cmd fresh room).status ≡ 0x9000
unfolding verdict pad_bytes
passes i l cmd fresh room t e =
    let n = t.fresh-long in
    let pad : (i : ℕ) → i < length (drop (str1_length l) fresh) → get_or (drop (str1_length l) fresh) i 0 ≡ 0 → ⊥ =
    λ i h q. t.pads-nonzero (str1_length l + i) (omega arith) (omega (arith, length-drop (str1_length l) fresh)) (sym (get_or-drop (str1_length l) fresh i 0) ∙ q) in
    rw (t.interface-known, eq-eqb (length fresh) 253 n, no_zero-holds (drop (str1_length l) fresh) pad, le-ltb room 256 t.room-enough) e

-- what the frame of a command says
record Frames (ins : ℕ) (d : List ℕ) : Type 0 where
  status : status_of (length (framed ins d)) (frame_of (framed ins d)) ≡ 0x9000
  data_is : data_of (framed ins d) ≡ d

frames-any : (ins : ℕ) (d : List ℕ) → known_ins ins ≡ true → 0 < length d → Frames ins d
frames-any ins d k h = record { status = framed-status ins (length d) d refl k h; data_is = framed-data ins (length d) d refl }

-- such a call on a load's card: it hands back what the reply says, and its counts are the formulas'
module _ (l : Load) (ins : ℕ) (d : List ℕ) (f : Frames ins d) (s : Session) (u : Tries) (i : ℕ) (fresh : List ℕ) (room : ℕ) (lr : TypedSession s) (t : Lent l.given.key_length i fresh room) where
  abbrev c : Card
  c = in_state l s u

  abbrev x : Call
  x = record { interface = i; command = framed ins d; fresh = fresh; room = room }

  reply : Reply
  reply = cond (eqb ins initial_ins) (initial_reply c d fresh) (final_reply c d fresh)

  taken : eqb (verdict_on i (key_length_of c) (framed ins d) fresh room).status 0x9000 ≡ true
  taken =
      eq-eqb (verdict_on i (key_length_of c) (framed ins d) fresh room).status 0x9000
      (ap (λ (n : ℕ). (verdict_on i n (framed ins d) fresh room).status) (length-is l) ∙ passes i l.given.key_length (framed ins d) fresh room t f.status)

  ins-is : ins_of (frame_of (framed ins d)) ≡ ins
  ins-is = frame_byte (framed ins d) 1 (omega arith)

  lc-is : lc_of (frame_of (framed ins d)) ≡ length d
  lc-is = frame_byte (framed ins d) 4 (omega arith)

  reply-is : reply_to c (framed ins d) fresh ≡ reply
  unfolding reply_to reply
  reply-is = rw (ins-is, f.data_is)

  call-handle : (outcome_of c x).answer.handle ≡ reply.handle
  unfolding outcome
  call-handle = rw taken (ap (λ (r : Reply). r.handle) reply-is)

  call-card : (outcome_of c x).card ≡ in_state l reply.session (tries_after i (not (eqb ins initial_ins) && not (accepts_final c d)) u)
  unfolding outcome refuses_final
  call-card = rw (taken, ins-is, f.data_is) (ap (λ (r : Reply). in_state l r.session (tries_after i (not (eqb ins initial_ins) && not (accepts_final c d)) u)) reply-is)

  call-bytes : bytes_of c x ≡ reply.bytes
  unfolding answer_bytes
  call-bytes = rw taken (ap (λ (r : Reply). r.bytes) reply-is)

  call_shape : shape_of (outcome_of c x).answer ≡ cond (eqb ins initial_ins) (initial_shape (length d)) (final_shape (key_length_of c) c.reply_size (length d))
  unfolding run formulas
  call_shape = ap (λ (y : List (Option Shape)). Option.get_or (get_or y 0 unanswered) (shape_of (outcome_of c x).answer)) (list-formulas (command x ∷ []) c (sound-state l s u lr.rnd1 lr.key)) ∙ rw (taken, ins-is, lc-is)

  call-accepted : accepted c x ≡ cond (eqb ins initial_ins) (accepts_initial c d) (accepts_final c d)
  unfolding accepted
  call-accepted = rw (taken, ins-is, f.data_is)

-- the block of an initial answer
block-is : (l : ℕ) (fresh text : List ℕ) → block_of l fresh text ≡ 0 ∷ 2 ∷ (drop (str1_length l) fresh ++ (0 ∷ text))
unfolding block_of pad_bytes
block-is l fresh text = ap (λ (y : List ℕ). 0 ∷ 2 ∷ y) (append_assoc (drop (str1_length l) fresh) (0 ∷ []) text)

-- an initial command
module _ (l : Load) (d : List ℕ) (f : Frames 0x87 d) (s : Session) (u : Tries) (i : ℕ) (fresh : List ℕ) (room : ℕ) (lr : TypedSession s) (t : Lent l.given.key_length i fresh room) where
  initial-shape : shape_of (outcome_of (c l 0x87 d f s u i fresh room lr t) (x l 0x87 d f s u i fresh room lr t)).answer ≡ initial_shape (length d)
  initial-shape = call_shape l 0x87 d f s u i fresh room lr t

  -- for which slot n of KeySetID k is found
  answered : (k n : ℕ) → slot_of (in_state l s u) d ≡ n → Holds (card_of l).sets n (id_of k) →
      Answered l k (8 * (length d / 4)) (in_state l s u) (record { interface = i; command = framed 0x87 d; fresh = fresh; room = room })
  unfolding reply initial_reply str1 tries_after
  answered k n e h =
      let w = h.below in
      let b : ltb (slot_of (in_state l s u) d) 8 ≡ true = lt-ltb (slot_of (in_state l s u) d) 8 (omega arith) in
      let g = slot-given l n h.kept in
      let q = set-slot l n g in
      record {
        number = ap (λ (y : Shape). y.number) initial-shape;
        status = ap (λ (y : Shape). y.status) initial-shape;
        comparisons = ap (λ (y : Shape). y.comparisons) initial-shape;
        place = n;
        gave = record { within = g; id = sym (ap (λ (y : KeySetSlot). y.id.0) q) ∙ ap (λ (y : KeySetId). y.0) h.id };
        handle = call-handle l 0x87 d f s u i fresh room lr t ∙ rw (b, e) (ap (λ (y : KeySetSlot). y.handle) q);
        card =
            call-card l 0x87 d f s u i fresh room lr t
            ∙ rw (b, e, length-is l) (ap (λ (j : KeySetSlot). in_state l (opened_with j (part fresh 0 l.given.key_length)) u) q);
        block = call-bytes l 0x87 d f s u i fresh room lr t ∙ rw (b, e, length-is l, h.id, div-given l) (block-is l.given.key_length fresh (str1 (id_of k) l.given.div_data (part fresh 0 l.given.key_length)));
      }

  refused : accepts_initial (in_state l s u) d ≡ false →
      Refused l (8 * (length d / 4)) (in_state l s u) (record { interface = i; command = framed 0x87 d; fresh = fresh; room = room })
  unfolding reply initial_reply tries_after
  refused e =
      record {
        number = ap (λ (y : Shape). y.number) initial-shape;
        status = ap (λ (y : Shape). y.status) initial-shape;
        comparisons = ap (λ (y : Shape). y.comparisons) initial-shape;
        handle = call-handle l 0x87 d f s u i fresh room lr t ∙ rw e (handle-given l);
        card = call-card l 0x87 d f s u i fresh room lr t ∙ rw e;
        block = call-bytes l 0x87 d f s u i fresh room lr t ∙ rw (e, length-is l) (block-is l.given.key_length fresh (part fresh 0 (str1_length l.given.key_length)));
      }

-- "set k held": the look for k finds a slot that holds it
holds : (l : Load) (i k : ℕ) → Gave l i k → Holds (card_of l).sets (first_slot 0 true (id_of k) (card_of l).sets) (id_of k)
holds l i k g =
    let e = set-slot l i g.within in
    let n = (is-a-load l).stocked.sets-long in
    let w = sets-most l in
    slot-holds (id_of k) (card_of l).sets n
    (held-there (card_of l).sets (id_of k) i (omega (arith, g.within)) (ap (λ (y : KeySetSlot). y.held) e) (ap (λ (y : KeySetSlot). y.id) e ∙ ap id_of g.id))

-- well formed data whose first entry is k
record Names (d : List ℕ) (k : ℕ) : Type 0 where
  formed : is_formed d ≡ true
  next : ℕ
  entry : entry_at d (first_entry d) ≡ Some (record { id = id_of k; next = next })
  long : 4 ≤ length d

names-slot : (d : List ℕ) (k : ℕ) → Names d k → (c : Card) → first_slot 0 true (id_of k) c.sets < 8 → slot_of c d ≡ first_slot 0 true (id_of k) c.sets
unfolding slot_of first_place
names-slot d k m c h =
    let l = m.long in
    let n : place_count d ≡ suc (place_count d - 1) = omega arith in
    ap (first_place c.sets (is_formed d) d (first_entry d)) n
    ∙ rw (m.formed, m.entry, ne_eqb (first_slot 0 true (id_of k) c.sets) 8 (λ z. omega arith))

answers : (d : List ℕ) (k : ℕ) → Names d k → (l : Load) (j : ℕ) → Gave l j k → EachCall l (framed 0x87 d) (Answered l k (8 * (length d / 4)))
answers d k m l j g s u i fresh room lr t =
    let h = holds l j k g in
    let n = m.long in
    answered l d (frames-any 0x87 d refl (omega arith)) s u i fresh room lr t k (first_slot 0 true (id_of k) (card_of l).sets) (names-slot d k m (in_state l s u) h.below) h

-- set 1 held
one-edge : (d : List ℕ) → Names d 1 → Of (λ l. (i : ℕ) × Gave l i 1) (λ l. EachCall l (framed 0x87 d) (Answered l 1 (8 * (length d / 4))))
one-edge d m = ((load-16.0, (0, load-16.1.1)), λ l p. answers d 1 m l p.0 p.1)

-- slots 2 then 5
five-edge : (d : List ℕ) → Names d 5 → Of (λ l. Gave l 0 2 × Gave l 1 5) (λ l. EachCall l (framed 0x87 d) (Answered l 5 (8 * (length d / 4))))
five-edge d m = (load-two, λ l p. answers d 5 m l 1 p.1)

-- "Refused (malformed or no match)": no entry, or a malformed list, which "has only missing places"
record NamesNone (d : List ℕ) : Type 0 where
  frames : Frames 0x87 d
  slot : (c : Card) → length c.sets ≡ 8 → accepts_initial c d ≡ false

refuses : (d : List ℕ) → NamesNone d → OfAll (λ l. EachCall l (framed 0x87 d) (Refused l (8 * (length d / 4))))
refuses d m = (
  load-16.0,
  λ l s u i fresh room lr t. refused l d m.frames s u i fresh room lr t (m.slot (in_state l s u) (is-a-load l).stocked.sets-long),
)

malformed : (sets : List KeySetSlot) (d : List ℕ) (p n : ℕ) → length sets ≡ 8 → first_place sets false d p n ≡ 8
unfolding first_place
malformed sets d p zero e = refl
malformed sets d p (suc n) e =
    rw (eq-eqb (first_slot 0 false (entry_id (entry_at d p)) sets) 8 (omega (arith, slot-missing 0 (entry_id (entry_at d p)) sets))) (malformed sets d (next_place p (entry_at d p)) n e)

malformed-refused : (d : List ℕ) → is_formed d ≡ false → (c : Card) → length c.sets ≡ 8 → accepts_initial c d ≡ false
unfolding slot_of
malformed-refused d f c e = rw (f, malformed c.sets d (first_entry d) (place_count d) e)

-- an empty list has no entry
none-edge : OfAll (λ l. EachCall l (framed 0x87 (0x30 ∷ 0 ∷ [])) (Refused l 0))
unfolding status_of whole frame_of data_of part slot_of first_place
none-edge = refuses (0x30 ∷ 0 ∷ []) (record { frames = record { status = refl; data_is = refl }; slot = λ c e. refl })

ill-edge : (d : List ℕ) → 0 < length d → is_formed d ≡ false → OfAll (λ l. EachCall l (framed 0x87 d) (Refused l (8 * (length d / 4))))
ill-edge d h f = refuses d (record { frames = frames-any 0x87 d refl h; slot = malformed-refused d f })

none-80-edge : OfAll (λ l. EachCall l (framed 0x87 (0x30 ∷ 0x80 ∷ 0 ∷ 0 ∷ [])) (Refused l 8))
unfolding slot_of first_place listed head walked ended entry_at
none-80-edge =
    let d : List ℕ = 0x30 ∷ 0x80 ∷ 0 ∷ 0 ∷ [] in
    refuses d (record { frames = frames-any 0x87 d refl (omega arith); slot = λ c e. let q : first_slot 0 false (id_of 0) c.sets ≡ 8 = omega (arith, slot-missing 0 (id_of 0) c.sets) in rw q })

-- whatever stands behind FF
ff-formed : (d : List ℕ) → is_formed (0x30 ∷ 0xFF ∷ d) ≡ false
unfolding listed
ff-formed d = rw (no-FF (0x30 ∷ 0xFF ∷ d) refl)

ff-edge : OfAll (λ l. (d : List ℕ) → EachCall l (framed 0x87 (0x30 ∷ 0xFF ∷ d)) (Refused l (8 * ((length d + 2) / 4))))
ff-edge = (
  load-16.0,
  λ l d s u i fresh room lr t. let e : length (0x30 ∷ 0xFF ∷ d) ≡ length d + 2 = omega arith in
      subst (λ (n : ℕ). Refused l (8 * (n / 4)) (in_state l s u) (record { interface = i; command = framed 0x87 (0x30 ∷ 0xFF ∷ d); fresh = fresh; room = room })) e
      ((ill-edge (0x30 ∷ 0xFF ∷ d) (omega arith) (ff-formed d)).1 l s u i fresh room lr t),
)

-- the records of a load by their lengths
module _ (l : Load) where
  counted-in : length (lengths l) ≤ l.given.mode_count
  counted-in = omega (
    arith,
    length-map (take l.given.mode_count l.given.modes) (λ (m : Mode). m.len),
    length-take l.given.mode_count l.given.modes,
  )

  length-at : (i : ℕ) → i < l.given.mode_count → get_or (lengths l) i 0 ≡ (get_or l.given.modes i past_mode).len
  length-at i h =
      get_or-map (λ (m : Mode). m.len) (take l.given.mode_count l.given.modes) i past_mode
      ∙ ap (λ (m : Mode). m.len) (get_or-take l.given.mode_count l.given.modes i past_mode h)

  records-at : (i n : ℕ) → i < length (lengths l) → get_or (lengths l) i 0 ≡ n → Records l i n
  records-at i n h e = let w : i < l.given.mode_count = omega (arith, counted-in) in record { within = w; size = sym (length-at i w) ∙ e }

  longest-at : (i n : ℕ) → i < length (lengths l) → get_or (lengths l) i 0 ≡ n → ((j : ℕ) → get_or (lengths l) j 0 ≤ n) → Longest l n
  longest-at i n h e f = record { at = i; has = records-at i n h e; others = λ j m r. omega (arith, f j, length-at j r.within, r.size) }

-- a load with one record, and with two of which the second is the longer
one-most : (n i : ℕ) → get_or (n ∷ []) i 0 ≤ n
one-most n zero = omega arith
one-most n (suc i) = omega arith

two-most : (m n i : ℕ) → m ≤ n → get_or (m ∷ n ∷ []) i 0 ≤ n
two-most m n zero h = h
two-most m n (suc i) h = one-most n i

longest-one : (l : Load) (n : ℕ) → lengths l ≡ n ∷ [] → Longest l n
longest-one l n e =
    longest-at l 0 n (omega (arith, ap length e)) (ap (λ (s : List ℕ). get_or s 0 0) e) (λ j. subst (λ (s : List ℕ). get_or s j 0 ≤ n) (sym e) (one-most n j))

longest-two : (l : Load) (m n : ℕ) → lengths l ≡ m ∷ n ∷ [] → m ≤ n → Longest l n
longest-two l m n e h =
    longest-at l 1 n (omega (arith, ap length e)) (ap (λ (s : List ℕ). get_or s 1 0) e) (λ j. subst (λ (s : List ℕ). get_or s j 0 ≤ n) (sym e) (two-most m n j h))

-- "record of n: B b"
module _ (l : Load) (n : ℕ) (r : Longest l n) where
  needed : reply_size_for n ≤ (card_of l).reply_size
  needed =
      let m = mode-slot l r.at r.has.within in
      omega (arith, ((is-a-load l).stocked.good r.at (ap (λ (s : ModeSlot). s.held) m)).size, ap (λ (s : ModeSlot). s.len) m, r.has.size)

  enough-for : (i : ℕ) → i < length (take l.given.mode_count l.given.modes) →
      reply_size_for (get_or (take l.given.mode_count l.given.modes) i past_mode).len ≤ reply_size_for n
  enough-for i h =
      let w : i < l.given.mode_count = omega (arith, length-take l.given.mode_count l.given.modes) in
      let m = r.others i _ (record { within = w; size = refl }) in
      omega (arith, ap (λ (s : Mode). s.len) (get_or-take l.given.mode_count l.given.modes i past_mode w))

  size_is : (card_of l).reply_size ≡ reply_size_for n
  size_is = omega (arith, needed, size-given l, size_below (take l.given.mode_count l.given.modes) (reply_size_for n) enough-for)

size-edge : (n : ℕ) → 0 < n → n ≤ 64 → Size n (reply_size_for n)
size-edge n h m = let w = one-record 16 n (length-sixteen refl) h m in ((w.0, longest-one w.0 n w.1.0), λ l p. size_is l n p)

-- T-01: the body of a mode's record of n bytes, on a card whose B is b
module _ (l : Load) (i n b : ℕ) (r : Records l i n) (s : (card_of l).reply_size ≡ b) where
  replies : (m : ℕ) (body : List ℕ) → body_given l i ≡ body → length body ≡ m → Replies l i b m body
  replies m body e h =
      record {
        size = s;
        long = h;
        answered =
            λ xs x f a q. named-answer l xs x f a i r.within q
            ∙ ap₂ (λ (k : ℕ) (t : List ℕ). encrypted (aes_under (card_keys_hash (left l xs) (data_of x.command))) zeros k (padded (t ++ l.given.div_data))) s e;
      }

  with-payload : (k : ℕ) → 16 * (b - 2) - n ≡ k → Replies l i b (n + k) (record_given l i ++ replicate k 0)
  unfolding body_of
  with-payload k e =
      let w : length (record_given l i) ≡ n = record-long l i r.within ∙ r.size in
      let z : 16 * ((card_of l).reply_size - 2) - length (record_given l i) ≡ k = omega arith in
      replies (n + k) (record_given l i ++ replicate k 0) (ap (λ (j : ℕ). record_given l i ++ replicate j 0) z)
      (length-append (record_given l i) (replicate k 0) ∙ omega (arith, length-replicate {A = ℕ} k 0))

  without : 16 * (b - 2) - n ≡ 0 → Replies l i b n (record_given l i)
  unfolding body_of
  without e =
      let w : length (record_given l i) ≡ n = record-long l i r.within ∙ r.size in
      let z : 16 * ((card_of l).reply_size - 2) - length (record_given l i) ≡ 0 = omega arith in
      replies n (record_given l i) (ap (λ (j : ℕ). record_given l i ++ replicate j 0) z ∙ append-nil (record_given l i)) w

-- the records of a load with two
first_of : (l : Load) (m n : ℕ) → lengths l ≡ m ∷ n ∷ [] → Records l 0 m
first_of l m n e = records-at l 0 m (omega (arith, ap length e)) (ap (λ (s : List ℕ). get_or s 0 0) e)

second-of : (l : Load) (m n : ℕ) → lengths l ≡ m ∷ n ∷ [] → Records l 1 n
second-of l m n e = records-at l 1 n (omega (arith, ap length e)) (ap (λ (s : List ℕ). get_or s 1 0) e)

both-edge : Of (λ l. lengths l ≡ 4 ∷ 16 ∷ []) (λ l. Replies l 0 3 16 (record_given l 0 ++ replicate 12 0))
both-edge = (load-4-16, λ l e. with-payload l 0 4 3 (first_of l 4 16 e) (size_is l 16 (longest-two l 4 16 e (omega arith))) 12 refl)

long-edge : Of (λ l. lengths l ≡ 15 ∷ 64 ∷ []) (λ l. Replies l 0 6 64 (record_given l 0 ++ replicate 49 0) × Replies l 1 6 64 (record_given l 1))
long-edge = (
  load-15-64,
  λ l e. let s = size_is l 64 (longest-two l 15 64 e (omega arith)) in
      (with-payload l 0 15 6 (first_of l 15 64 e) s 49 refl, without l 1 64 6 (second-of l 15 64 e) s refl),
)

alone-edge : Of (λ l. lengths l ≡ 4 ∷ []) (λ l. Replies l 0 2 4 (record_given l 0))
alone-edge = (let w = one-record 16 4 (length-sixteen refl) (omega arith) (omega arith) in (w.0, w.1.0), λ l e. let k = longest-one l 4 e in without l 0 4 2 (records-at l 0 4 (omega (arith, ap length e)) (ap (λ (s : List ℕ). get_or s 0 0) e)) (size_is l 4 k) refl)

-- "payload p: Lc lc"
seal-edge : (l p : ℕ) → is_key_length l ≡ true → p ≤ payload_most l → Seals l p (lcFor l p)
unfolding seal_number seal_command final_command
seal-edge l p three h fa div rnd1 rnd2 mode payload out f a b e room =
    let m : ltb (payload_most l) (length payload) ≡ false = le-ltb (payload_most l) (length payload) (omega arith) in
    let o : ltb (length out) (lcFor l (length payload) + 6) ≡ false = le-ltb (length out) (lcFor l (length payload) + 6) (omega arith) in
    let z : seal_number l fa rnd1 rnd2 (length payload) (length out) ≡ 0 = rw (three, eq-eqb fa.length l f, eq-eqb rnd1.length l a, eq-eqb rnd2.length l b, m, o) in
    let q = seal-done l fa div rnd1 rnd2 mode payload out z in
    record {
      number = ap (λ (s : Sealed). s.number) q;
      total = ap (λ (s : Sealed). s.length) q ∙ length-seal_command l (keys.bytes_of fa) div (keys.bytes_of rnd1) (keys.bytes_of rnd2) mode payload ∙ ap (λ (n : ℕ). lcFor l n + 6) e;
      lc-byte = rw (seal-written l fa div rnd1 rnd2 mode payload out z, over-front) (ap (lcFor l) e);
    }

seal-declines-edge : (l p : ℕ) → is_key_length l ≡ true → payload_most l < p → SealDeclines l p
unfolding seal_number sealed_of seal_output
seal-declines-edge l p three h fa div rnd1 rnd2 mode payload out f a b e =
    let m : ltb (payload_most l) (length payload) ≡ true = lt-ltb (payload_most l) (length payload) (omega arith) in
    rw (three, eq-eqb fa.length l f, eq-eqb rnd1.length l a, eq-eqb rnd2.length l b, m) (refl, refl)

-- "last block 80 and fifteen 00: good"
good-edge : Good (0x80 ∷ replicate 15 0)
unfolding padded
good-edge s w =
    let z : zero_bytes (length s) ≡ 15 = omega arith in
    let e : s ++ (0x80 ∷ replicate 15 0) ≡ padded s = ap (λ (n : ℕ). s ++ (0x80 ∷ replicate n 0)) (sym z) in
    let u : unpadded (s ++ (0x80 ∷ replicate 15 0)) ≡ Some (length s) = ap unpadded e ∙ unpadded-padded s in
    (rightly-seen (s ++ (0x80 ∷ replicate 15 0)) (length s) (seen (s ++ (0x80 ∷ replicate 15 0)) (length s) u), u)

-- "sixteen 00: bad": the byte that unpadding wants would be one of them
bad-seen : (s : List ℕ) (n : ℕ) → Seen (s ++ replicate 16 0) n → ⊥
bad-seen s n k =
    let y : List ℕ = s ++ replicate 16 0 in
    let m : length y ≡ length s + 16 = length-append s (replicate 16 0) in
    let e : n ≡ length s + (n - length s) = omega (arith, k.last) in
    let z : get_or y n 0 ≡ 0 =
    ap (λ (j : ℕ). get_or y j 0) e
    ∙ get_or-append-add s (replicate 16 0) (n - length s) 0
    ∙ get_or-replicate 16 (n - length s) 0 0 (omega (arith, k.ends, k.last, text_end-le y (length y))) in
    let q = sym z ∙ k.one in
    omega arith

not-rightly : (s : List ℕ) (b : Bool) → rightly s ≡ b → unpadded s ≡ None → b ≡ false
unfolding unpadded
not-rightly s true e u = cc
not-rightly s false e u = refl

bad-edge : Bad (replicate 16 0)
bad-edge s w =
    let u : unpadded (s ++ replicate 16 0) ≡ None = seen_none (s ++ replicate 16 0) (bad-seen s) in
    (not-rightly (s ++ replicate 16 0) (rightly (s ++ replicate 16 0)) refl u, u)

-- what meets the six conditions is accepted
accepting-so : (l : ℕ) (opened : Bool) (lc : ℕ) (s hash : List ℕ) (mode : ℕ) → SixConditions l opened lc s hash mode → accepting l opened lc s hash mode ≡ true
unfolding accepting
accepting-so l opened lc s hash mode k =
    rw (k.in-session, eq-eqb (lc % 16) 0 k.whole, k.right, le-leb _ _ k.long, same_of _ _ k.last, lt-ltb mode 16 k.below)

module _ (c : Card) (d : List ℕ) where
  abbrev Six : Type 0
  Six = SixConditions (key_length_of c) c.session.opened (length d) (deciphered_text c d) (card_keys_hash c d) (mode_of c d)

  is-accepted : Six → accepts_final c d ≡ true
  unfolding accepts_final
  is-accepted k = accepting-so (key_length_of c) c.session.opened (length d) (deciphered_text c d) (card_keys_hash c d) (mode_of c d) k

  -- and what does not is not
  not-accepted : (Six → ⊥) → accepts_final c d ≡ false
  not-accepted f = by (accepts_final c d) refl
    where
      by : (t : Bool) → accepts_final c d ≡ t → t ≡ false
      by true e = absurd (f (six-conditions c d e))
      by false e = refl

  -- a text comes from whole blocks
  text-data : (n : ℕ) → unpadded (deciphered_text c d) ≡ Some n → 0 < length d
  unfolding deciphered_text part
  text-data n u = omega (arith, unpadded-lt (deciphered_text c d) n u, length-take (16 * (length d / 16)) (drop 0 (text_of c d)))

-- a final command on a card with keys of k bytes and B 3: its counts, whatever its verdict
module _ (k : ℕ) (l : Load) (w : l.given.key_length ≡ k) (b : (card_of l).reply_size ≡ 3) (d : List ℕ) (h : 0 < length d) where
  final-counts : EachCall l (framed 0x86 d) (FinalCounts (length d / 16) (3 + cond (ltb 16 k) 2 1) (cond (eqb k 32) 2 1))
  final-counts s u i fresh room lr t =
      let e : shape_of (outcome_of (in_state l s u) (record { interface = i; command = framed 0x86 d; fresh = fresh; room = room })).answer ≡ final_shape k 3 (length d) =
      call_shape l 0x86 d (frames-any 0x86 d refl h) s u i fresh room lr t ∙ ap₂ (λ (n m : ℕ). final_shape n m (length d)) (length-is l ∙ w) b in
      record {
        number = ap (λ (y : Shape). y.number) e;
        status = ap (λ (y : Shape). y.status) e;
        comparisons = ap (λ (y : Shape). y.comparisons) e;
        decipherments = ap (λ (y : Shape). y.decipherments) e;
        encipherments = ap (λ (y : Shape). y.encipherments) e;
        expansions = ap (λ (y : Shape). y.expansions) e;
        hash_blocks = ap (λ (y : Shape). y.hash_blocks) e;
        size = ap (λ (y : Shape). y.size) e;
      }

  final-refused : (length d % 16 ≡ 0 → ⊥) → EachCall l (framed 0x86 d) (FinalRefused l (length d / 16) (3 + cond (ltb 16 k) 2 1) (cond (eqb k 32) 2 1))
  unfolding reply final_reply
  final-refused o s u i fresh room lr t =
      let f = frames-any 0x86 d refl h in
      let r = not-accepted (in_state l s u) d (λ z. o z.whole) in
      record {
        counts = final-counts s u i fresh room lr t;
        handle = call-handle l 0x86 d f s u i fresh room lr t;
        card = call-card l 0x86 d f s u i fresh room lr t ∙ rw r;
        refused = call-accepted l 0x86 d f s u i fresh room lr t ∙ r;
        reply =
            call-bytes l 0x86 d f s u i fresh room lr t
            ∙ refused-reply (in_state l s u) d fresh (stocked-state (card_of l) s u (is-a-load l).stocked) r t.fresh-long
            ∙ ap (λ (n : ℕ). encrypted (aes_under (keys.held (key_length_of (card_of l)) (card_of l).shill_key)) zeros n (part fresh 0 (16 * n))) b
            ∙ ap (λ (key : List ℕ). encrypted (aes_under key) zeros 3 (part fresh 0 48)) (shill-held l);
      }

-- there is such a card
three-blocks : (k : ℕ) → is_key_length k ≡ true → (l : Load) × ((l.given.key_length ≡ k) × ((card_of l).reply_size ≡ 3))
three-blocks k three = let w = one-record k 16 three (omega arith) (omega arith) in (w.0, (w.1.2, size_is w.0 16 (longest-one w.0 16 w.1.0)))

final-edge : (k lc : ℕ) → is_key_length k ≡ true → 0 < lc → (lc % 16 ≡ 0 → ⊥) → Final k lc (lc / 16) (3 + cond (ltb 16 k) 2 1) (cond (eqb k 32) 2 1)
final-edge k lc three h o = (
  three-blocks k three,
  λ l b d e s u i fresh room lr t. rw (ap (λ (n : ℕ). n / 16) e) at (final-refused k l b.0 b.1 d (omega arith) (λ z. o (ap (λ (n : ℕ). n % 16) (sym e) ∙ z)) s u i fresh room lr t),
)

counts-edge : (k lc : ℕ) → is_key_length k ≡ true → 0 < lc → Counts k lc (lc / 16) (3 + cond (ltb 16 k) 2 1) (cond (eqb k 32) 2 1)
counts-edge k lc three h = (
  three-blocks k three,
  λ l b d e s u i fresh room lr t. rw (ap (λ (n : ℕ). n / 16) e) at (final-counts k l b.0 b.1 d (omega arith) s u i fresh room lr t),
)

-- "the shortest text has 2 + 2L bytes"
shortest-edge : (k : ℕ) → is_key_length k ≡ true → Shortest k (2 + 2 * k)
shortest-edge k three = (
  (let w = three-blocks k three in (w.0, w.1.0)),
  λ l w d s u i fresh room lr t. let c : Card = in_state l s u in
      let n : key_length_of c ≡ k = length-is l ∙ w in
      let r : (m : ℕ) → unpadded (deciphered_text c d) ≡ Some m → accepted c (record { interface = i; command = framed 0x86 d; fresh = fresh; room = room }) ≡ accepts_final c d =
      λ m q. call-accepted l 0x86 d (frames-any 0x86 d refl (text-data c d m q)) s u i fresh room lr t in
      record {
        fewer = λ m u h. r m u ∙ not-accepted c d (λ z. omega (arith, z.long, (seen (deciphered_text c d) m u).ends));
        enough =
            λ u o a e m. let v = seen (deciphered_text c d) (2 + 2 * k) u in
            r (2 + 2 * k) u
            ∙ is-accepted c d
            (record {
              in-session = o;
              whole = a;
              right = rightly-seen (deciphered_text c d) (2 + 2 * k) v;
              long = omega (arith, v.ends);
              last = ap₂ (λ (i j : ℕ). part (deciphered_text c d) (i - j) j) (ap (λ (i : ℕ). i - 1) v.ends ∙ omega arith) n ∙ e;
              below = m;
            });
      },
)

pub all_edges : All edges
unfolding edges listed head walked ended entry_at length_at fitting unsigned part is_key_length
all_edges =
    one-edge (0x30 ∷ 4 ∷ 4 ∷ 2 ∷ 0 ∷ 1 ∷ []) (record { formed = refl; next = 6; entry = refl; long = omega arith }) and
    five-edge (0x30 ∷ 8 ∷ 4 ∷ 2 ∷ 0 ∷ 5 ∷ 4 ∷ 2 ∷ 0 ∷ 2 ∷ []) (record { formed = refl; next = 6; entry = refl; long = omega arith }) and
    none-edge and
    ill-edge (0x30 ∷ 4 ∷ 4 ∷ 2 ∷ 0 ∷ 1 ∷ 0 ∷ []) (omega arith) refl and
    ill-edge (0x30 ∷ 3 ∷ 4 ∷ 1 ∷ 1 ∷ []) (omega arith) refl and
    one-edge (0x30 ∷ 0x81 ∷ 4 ∷ 4 ∷ 2 ∷ 0 ∷ 1 ∷ []) (record { formed = refl; next = 7; entry = refl; long = omega arith }) and
    size-edge 15 (omega arith) (omega arith) and
    size-edge 16 (omega arith) (omega arith) and
    size-edge 64 (omega arith) (omega arith) and
    seal-edge 16 13 refl (omega arith) and
    seal-edge 16 14 refl (omega arith) and
    seal-edge 16 205 refl (omega arith) and
    good-edge and
    bad-edge and
    final-edge 16 255 refl (omega arith) (λ z. omega arith) and
    final-edge 16 1 refl (omega arith) (λ z. omega arith) and
    both-edge and
    long-edge and
    alone-edge and
    five-edge (0x30 ∷ 0x82 ∷ 0 ∷ 8 ∷ 4 ∷ 2 ∷ 0 ∷ 5 ∷ 4 ∷ 2 ∷ 0 ∷ 2 ∷ []) (record { formed = refl; next = 8; entry = refl; long = omega arith }) and
    one-edge (0x30 ∷ 0x80 ∷ 4 ∷ 2 ∷ 0 ∷ 1 ∷ 0 ∷ 0 ∷ []) (record { formed = refl; next = 6; entry = refl; long = omega arith }) and
    none-80-edge and
    one-edge (0x30 ∷ 0x84 ∷ 0 ∷ 0 ∷ 0 ∷ 4 ∷ 4 ∷ 2 ∷ 0 ∷ 1 ∷ []) (record { formed = refl; next = 10; entry = refl; long = omega arith }) and
    one-edge (0x30 ∷ 5 ∷ 4 ∷ 0x81 ∷ 2 ∷ 0 ∷ 1 ∷ []) (record { formed = refl; next = 7; entry = refl; long = omega arith }) and
    ff-edge and
    seal-edge 24 189 refl (omega arith) and
    seal-edge 32 173 refl (omega arith) and
    seal-declines-edge 16 206 refl (omega arith) and
    seal-declines-edge 24 190 refl (omega arith) and
    seal-declines-edge 32 174 refl (omega arith) and
    shortest-edge 16 refl and
    shortest-edge 24 refl and
    shortest-edge 32 refl and
    seal-edge 16 0 refl (omega arith) and
    seal-edge 24 0 refl (omega arith) and
    seal-edge 32 0 refl (omega arith) and
    final-edge 24 255 refl (omega arith) (λ z. omega arith) and
    final-edge 24 1 refl (omega arith) (λ z. omega arith) and
    final-edge 32 255 refl (omega arith) (λ z. omega arith) and
    final-edge 32 1 refl (omega arith) (λ z. omega arith) and
    counts-edge 16 48 refl (omega arith) and
    counts-edge 16 240 refl (omega arith) and
    counts-edge 24 64 refl (omega arith) and
    counts-edge 24 240 refl (omega arith) and
    counts-edge 32 80 refl (omega arith) and
    counts-edge 32 240 refl (omega arith) and
    end
