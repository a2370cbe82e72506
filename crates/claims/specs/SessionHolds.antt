-- The session promise holds. Assumes nothing.
use Rattle.std.specs.Prelude.{◌≡◌, refl, Bool, true, false, ℕ, ◌<◌, ◌≤◌, ltb, take}
use Rattle.std.proofs.Math.Path.{sym, ap, ap₂, subst}
use Rattle.std.proofs.Common.{◌∙◌, arith, ltb-true, ltb-false}
use mathlib.Core.List.{List}
use Rattle.std.proofs.Math.Dec.{eqb}
use Rattle.std.proofs.Math.ListN.{length, get_or, get_or-map, get_or-eq_default}
use Rattle.std.proofs.lemmas.List.{length-map}
use Rattle.std.proofs.Math.Seq.{get_or-take, length-take-le}
use Rattle.octets.specs.Bytes.{Bytes}
use Rattle.octets.specs.Lists.{part}
use Rattle.key_expansion.specs.KeyLength.{length_most}
use Rattle.plaid_types.specs.Keys as keys
use Rattle.plaid_types.specs.Keys.{bytes_of, value_of}
use Rattle.plaid_types.specs.KeyLaws.{length-bytes}
use Rattle.plaid_types.specs.Cards.{with_sets}
use Rattle.frame.specs.Frame.{initial_ins}
use Rattle.plaid_types.specs.declared.Value.{Value}
use Rattle.plaid_types.specs.declared.KeySetId.{KeySetId}
use Rattle.plaid_types.specs.declared.KeySetSlot.{KeySetSlot}
use Rattle.plaid_types.specs.declared.Mode.{Mode}
use Rattle.plaid_types.specs.declared.ModeSlot.{ModeSlot}
use Rattle.plaid_types.specs.declared.Card.{Card}
use Rattle.plaid_types.specs.declared.Outcome.{Outcome}
use Rattle.load.specs.Load.{past_set, past_mode, some, set_slot, table_of, mode_slot}
use Rattle.load.proofs.Laws.{map-take, slot_at, set_at, mode_at, set-held, set_given, Stocked}
use Rattle.list.specs.Encoding.{encoded}
use Rattle.list.specs.Meaning.{encoded-encodes}
use Rattle.initial.specs.Initial.{slot_of}
use Rattle.final_command.specs.Final.{first_mode}
use Rattle.card.specs.Command.{outcome, answer_bytes}
use Rattle.card.specs.Lists.{Call, is_initial}
use Rattle.card.specs.KeyChange.{loads-table, final-outcome, final-bytes}
use Rattle.reader_list.specs.List.{numbers, given, list_command}
use Rattle.reader_open.specs.Open.{no_id, block_at}
use Rattle.reader_seal.specs.Seal.{keys_hash_of, sealed_command}
use Rattle.reader_seal.specs.Laws.{Sealable}
use Rattle.reader_accept.specs.Accept.{accepted_of, work_after, record_part}
use Rattle.reader_accept.specs.declared.Accepted.{Accepted}
use Rattle.session_initial.specs.Held.{held, first_held, Holds}
use Rattle.session_initial.specs.Answered.{list-slot}
use Rattle.session_final.specs.SealFrame.{seal-ins}
use Rattle.session_final.specs.SealReply.{sealed_slot}
use Rattle.session.specs.Promise as promise
use Rattle.claims.specs.Loaded.{mode-slot, mode-below, record-given, div-given, area-bytes, value-byte, length_three, length-given}
use Rattle.claims.specs.Sets.{sets-most, set-length, fa-key-held, sets-typed}
use Rattle.claims.specs.Kept.{Kept, kept}
use Rattle.claims.specs.Found.{listed-held, place_is, slot-unique, mode-found, mode-is, list-number, list-sent, seal-seen, seal-hash, seal-sent}
use Rattle.claims.specs.Session.{Exchange, Conditions, Promised, SessionPromise, card, sets, command₁, outcome₁, open₁, seal, command₂, card₂, outcome₂, answer₂, accept}

-- what the promise on a stocked card asks, from the claim's conditions
module _ (e : Exchange) (k : Conditions e) where
  kp : Kept e.load e.before
  kp = kept e.load e.before

  g : Stocked (card e)
  g = kp.stocked

  -- the KeySetIDs listed
  ids : List KeySetId
  ids = take e.count e.ids

  range : (1 ≤ e.count) × (e.count ≤ 16)
  range = promise.listing e.ids e.count (length e.list_out) (list-number e.ids e.count e.list_out k.list_done)

  ids-are : length ids ≡ e.count
  unfolding ids
  ids-are = length-take-le e.count e.ids (omega (arith, k.ids-long, range.1))

  id-at : (i : ℕ) → i < e.count → get_or ids i no_id ≡ get_or e.ids i no_id
  unfolding ids
  id-at i h = get_or-take e.count e.ids i no_id h

  numbers-are : numbers ids ≡ given e.ids e.count
  unfolding ids
  numbers-are = sym (map-take (λ (x : KeySetId). x.0) e.count e.ids)

  id-small : (i : ℕ) → get_or (numbers ids) i 0 < 65536
  id-small i = rw (get_or-map (λ (x : KeySetId). x.0) ids i no_id) (by (ltb i e.count) refl)
    where
      by : (t : Bool) → ltb i e.count ≡ t → (get_or ids i no_id).0 < 65536
      by true q = rw (id-at i (ltb-true i e.count q)) (k.ids-small i)
      by false q = rw (get_or-eq_default ids no_id {n = i} (omega (arith, ids-are, ltb-false i e.count q))) (omega arith)

  -- the first listed set that the (card e) holds
  slot_is : set_at (card e) k.set ≡ set_slot (get_or (sets e) k.set past_set)
  slot_is = ap (λ (x : Card). set_at x k.set) kp.same ∙ set-held (sets e) k.set k.set-loaded

  slot-id : (set_at (card e) k.set).id ≡ get_or ids k.place no_id
  slot-id = ap (λ (s : KeySetSlot). s.id) slot_is ∙ k.same_id ∙ sym (id-at k.place k.place-listed)

  slot_held : (set_at (card e) k.set).held ≡ true
  slot_held = ap (λ (s : KeySetSlot). s.held) slot_is

  below : k.set < 8
  below = omega (arith, k.set-loaded, sets-most e.load e.before)

  none-held : (i m : ℕ) → i < k.place → (set_at (card e) m).held ≡ true → (set_at (card e) m).id ≡ get_or ids i no_id → ⊥
  none-held i m h a b =
      let w : set_at (card e) m ≡ slot_at (table_of (sets e)) m = ap (λ (x : Card). set_at x m) kp.same in
      let j : m < length (sets e) = set_given (sets e) m (sym (ap (λ (s : KeySetSlot). s.held) w) ∙ a) in
      k.none-earlier i m h j
      (sym (ap (λ (s : KeySetSlot). s.id) (w ∙ set-held (sets e) m j)) ∙ b ∙ id-at i (omega (arith, k.place-listed)))

  some-held : some (held (card e)) ids ≡ true
  some-held = listed-held (card e) g ids k.place k.set (omega (arith, ids-are, k.place-listed)) below slot_held slot-id none-held

  first-is : first_held (card e) ids ≡ k.place
  first-is = place_is (card e) g ids k.place k.set (omega (arith, ids-are, k.place-listed)) below slot_held slot-id none-held

  found-slot : slot_of (card e) (encoded (numbers ids)) ≡ k.set
  found-slot =
      slot-unique (card e) g (get_or ids k.place no_id)
      (subst (λ (m : ℕ). Holds (card e).sets (slot_of (card e) (encoded (numbers ids))) (get_or ids m no_id)) first-is (list-slot (card e) g ids (encoded (numbers ids)) (encoded-encodes (numbers ids) (omega (arith, length-map ids (λ (x : KeySetId). x.0), ids-are, range.1))) some-held))
      (record { below = below; kept = slot_held; id = slot-id })

  -- Seal takes a FAKey of the reader's L, and a load one of the card's: the two are one
  seen : Sealable e.key_length e.fa_key (open₁ e).rnd1 e.rnd2 (length e.payload) (length e.seal_out)
  seen = seal-seen e.key_length e.fa_key (open₁ e).div_data (open₁ e).rnd1 e.rnd2 e.mode e.payload e.seal_out k.seal-done

  most : e.key_length ≤ 32
  most = length_most e.key_length seen.length-one

  one-length : e.key_length ≡ e.load.given.key_length
  one-length =
      let n : ℕ = e.load.given.key_length in
      sym (length-bytes e.key_length e.fa_key most k.key-typed.long seen.key_right)
      ∙ sym (ap length k.same_key)
      ∙ length-bytes n (get_or (sets e) k.set past_set).fa_key (length_most n (length_three e.load))
      (sets-typed e.load e.before k.before-typed k.set k.set-loaded).long (set-length e.load e.before k.set k.set-loaded)

  key-is : keys.held e.key_length (set_at (card e) (slot_of (card e) (encoded (given e.ids e.count)))).fa_key ≡ bytes_of e.fa_key
  key-is =
      ap (keys.held e.key_length)
      (sym (ap (λ (s : List ℕ). (set_at (card e) (slot_of (card e) (encoded s))).fa_key) numbers-are) ∙ ap (λ (j : ℕ). (set_at (card e) j).fa_key) found-slot)
      ∙ ap₂ (λ (n : ℕ) (x : Card). keys.held n (set_at x k.set).fa_key) one-length kp.same
      ∙ fa-key-held e.load e.before k.set k.set-loaded k.before-typed
      ∙ k.same_key

  -- the mode
  mode-slot-is : mode_at (card e) k.at ≡ mode_slot (get_or e.load.given.modes k.at past_mode)
  mode-slot-is = ap (λ (x : Card). mode_at x k.at) kp.same ∙ mode-slot e.load k.at k.mode-loaded

  mode-id : (mode_at (card e) k.at).id ≡ e.mode
  mode-id = ap (λ (s : ModeSlot). s.id) mode-slot-is ∙ k.same-mode

  mode-held : first_mode 0 e.mode (card e).modes < 16
  mode-held = mode-found (card e) g e.mode k.at (mode-below e.load k.at k.mode-loaded) (ap (λ (s : ModeSlot). s.held) mode-slot-is) mode-id

  sealed-slot : sealed_slot (card e) e.mode ≡ mode_slot (get_or e.load.given.modes k.at past_mode)
  sealed-slot =
      ap (mode_at (card e))
      (mode-is (card e) g e.mode k.at (mode-below e.load k.at k.mode-loaded) (ap (λ (s : ModeSlot). s.held) mode-slot-is) mode-id)
      ∙ mode-slot-is

  -- the commands are List's and Seal's
  cmd₁ : List ℕ
  cmd₁ = list_command (given e.ids e.count)

  sent₁ : (command₁ e) ≡ cmd₁
  unfolding cmd₁
  sent₁ = list-sent e.ids e.count e.list_out k.list_done

  cmd₂ : List ℕ
  cmd₂ = sealed_command e.key_length e.fa_key (open₁ e).div_data (open₁ e).rnd1 e.rnd2 e.mode e.payload

  sent₂ : (command₂ e) ≡ cmd₂
  unfolding cmd₂
  sent₂ = seal-sent e.key_length e.fa_key (open₁ e).div_data (open₁ e).rnd1 e.rnd2 e.mode e.payload e.seal_out k.seal-done

  hash : Value
  hash = value_of (keys_hash_of e.key_length (bytes_of (open₁ e).rnd1) (bytes_of e.rnd2))

  hash-is : (seal e).keys_hash ≡ hash
  unfolding hash
  hash-is = seal-hash e.key_length e.fa_key (open₁ e).div_data (open₁ e).rnd1 e.rnd2 e.mode e.payload e.seal_out k.seal-done

  next : Card
  next = (outcome (card e) e.interface₁ cmd₁ e.fresh₁ e.room₁).card

  next-is : (outcome₁ e).card ≡ next
  unfolding next
  next-is = ap (λ (x : List ℕ). (outcome (card e) e.interface₁ x e.fresh₁ e.room₁).card) sent₁

  -- T-07: "The session ends under the old key": the loads in between make no difference to it
  last : List ℕ → Call
  last y = record { interface = e.interface₂; command = y; fresh = e.fresh₂; room = e.room₂ }

  ends_so : is_initial (last cmd₂) ≡ false
  unfolding cmd₂ last
  ends_so =
      ap (λ (i : ℕ). eqb i initial_ins)
      (seal-ins e.key_length (bytes_of e.fa_key) (open₁ e).div_data (bytes_of (open₁ e).rnd1) (bytes_of e.rnd2) e.mode e.payload)

  table₂ : List KeySetSlot
  table₂ = (card₂ e).sets

  reached : card₂ e ≡ with_sets next table₂
  unfolding table₂
  reached = loads-table (outcome₁ e).card e.between ∙ ap (λ (c : Card). with_sets c (card₂ e).sets) next-is

  answer-is : (answer₂ e) ≡ answer_bytes next e.interface₂ cmd₂ e.fresh₂ e.room₂
  unfolding last
  answer-is =
      ap₂ (λ (x : Card) (y : List ℕ). answer_bytes x e.interface₂ y e.fresh₂ e.room₂) reached sent₂
      ∙ final-bytes next table₂ (last cmd₂) ends_so

  number_is : (outcome₂ e).answer.number ≡ (outcome next e.interface₂ cmd₂ e.fresh₂ e.room₂).answer.number
  unfolding last
  number_is =
      ap₂ (λ (x : Card) (y : List ℕ). (outcome x e.interface₂ y e.fresh₂ e.room₂).answer.number) reached sent₂
      ∙ ap (λ (o : Outcome). o.answer.number) (final-outcome next table₂ (last cmd₂) ends_so)

  accept-is : (accept e) ≡ accepted_of e.key_length hash (open₁ e).div_data e.record_length (answer_bytes next e.interface₂ cmd₂ e.fresh₂ e.room₂) (length e.work)
  accept-is = ap₂ (λ (h : Value) (a : List ℕ). accepted_of e.key_length h (open₁ e).div_data e.record_length a (length e.work)) hash-is answer-is

  conditions : promise.Conditions e.key_length (card e) e.ids e.count e.interface₁ e.fresh₁ e.room₁ e.blocks (bytes_of e.fa_key) (bytes_of e.rnd2) e.payload e.mode e.interface₂ e.fresh₂ e.room₂ e.record_length e.work
  unfolding ids cmd₁ cmd₂ next hash
  conditions =
      record {
        stocked = g;
        one-length = one-length ∙ sym (ap (λ (x : Card). x.key_length) kp.same ∙ length-given e.load);
        rnd2-long = length-bytes e.key_length e.rnd2 most k.rnd2-typed.long seen.rnd2-right;
        list-room = length e.list_out;
        list-made = list-number e.ids e.count e.list_out k.list_done;
        first-call = sym (ap (λ (x : List ℕ). (outcome (card e) e.interface₁ x e.fresh₁ e.room₁).answer.number) sent₁) ∙ k.first_done;
        not-14 = k.open_done.0;
        second_call = sym number_is ∙ k.second-done;
        not-19 = λ q. k.accept-done.0 (ap (λ (a : Accepted). a.number) accept-is ∙ q);
        some-held = some-held;
        same_key = key-is;
        decrypted = ap (block_at e.blocks) first-is ∙ k.decrypted ∙ ap (λ (x : List ℕ). answer_bytes (card e) e.interface₁ x e.fresh₁ e.room₁) sent₁;
        no-earlier = λ i h. k.none-opens i (omega (arith, first-is));
        mode-held = mode-held;
        same_length = k.same_length ∙ sym (ap (λ (s : ModeSlot). s.len) sealed-slot);
        ids-long = k.ids-long;
        ids-small = λ i. subst (λ (s : List ℕ). get_or s i 0 < 65536) numbers-are (id-small i);
        mode_small = k.mode_small;
        div-bytes = subst (λ (d : List ℕ). Bytes d) (sym (ap (λ (x : Card). x.div_data) kp.same ∙ div-given e.load)) e.load.typed.div.byte;
        area-bytes = subst (λ (d : List ℕ). Bytes d) (sym (ap (λ (x : Card). x.area) kp.same)) (area-bytes e.load);
        key-bytes = value-byte e.fa_key k.key-typed;
        rnd2-bytes = value-byte e.rnd2 k.rnd2-typed;
        payload-bytes = k.payload-bytes;
      }

  numbered : (accept e) ≡ record { number = 0; length = (sealed_slot (card e) e.mode).len }
  unfolding ids cmd₁ cmd₂ next hash
  numbered =
      accept-is
      ∙ promise.session-number e.key_length (card e) e.ids e.count e.interface₁ e.fresh₁ e.room₁ e.blocks (bytes_of e.fa_key) (bytes_of e.rnd2) e.payload e.mode e.interface₂ e.fresh₂ e.room₂ e.record_length e.work conditions

  promised : Promised e k
  unfolding ids cmd₁ cmd₂ next hash
  promised =
      let m : Mode = get_or e.load.given.modes k.at past_mode in
      record {
        number = ap (λ (a : Accepted). a.number) numbered;
        record-length = ap (λ (a : Accepted). a.length) numbered ∙ ap (λ (s : ModeSlot). s.len) sealed-slot;
        record-returned =
            ap₂ (λ (h : Value) (a : List ℕ). record_part (work_after e.key_length h (open₁ e).div_data e.record_length a e.work) (accepted_of e.key_length h (open₁ e).div_data e.record_length a (length e.work))) hash-is answer-is
            ∙ promise.session-record e.key_length (card e) e.ids e.count e.interface₁ e.fresh₁ e.room₁ e.blocks (bytes_of e.fa_key) (bytes_of e.rnd2) e.payload e.mode e.interface₂ e.fresh₂ e.room₂ e.record_length e.work conditions
            ∙ ap (λ (s : ModeSlot). part (card e).area s.start s.len) sealed-slot
            ∙ ap (λ (a : List ℕ). part a m.start m.len) (ap (λ (x : Card). x.area) kp.same)
            ∙ record-given e.load k.at k.mode-loaded;
      }

-- THE SESSION PROMISE
pub session-promise : SessionPromise
session-promise e k = promised e k
