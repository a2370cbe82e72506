-- The session promise of demand 2 on a card that a load stocked, whatever session it has: from List to the record that Accept returns. Assumes nothing.
use Rattle.std.specs.Prelude.{◌≡◌, refl, Bool, true, false, cond, ◌||◌, ℕ, zero, suc, ◌+◌, ◌-◌, ◌*◌, ◌<◌, ◌≤◌, eqb, ltb, length, get_or, take}
use Rattle.std.proofs.Math.Path.{sym, ap, ap₂}
use Rattle.std.proofs.Common.{subst, ◌∙◌, true≢false, arith, get_or-take, length-take-le, eqb-true, ltb-true, ltb-false, eq-eqb, ne_eqb, le-ltb}
use mathlib.Core.List.{List, map}
use Rattle.std.proofs.lemmas.List.{length-map}
use Rattle.octets.specs.Lists.{part, length_part}
use Rattle.octets.specs.Bytes.{Bytes, Block}
use Rattle.octets.specs.ByteLists.{part_bytes}
use Rattle.key_expansion.specs.KeyLength.{is_key_length, length_most}
use Rattle.frame.specs.Frame.{frame_of, ins_of, data_of, initial_ins, final_ins}
use Rattle.frame.specs.Laws.{Passed, passed}
use Rattle.list.specs.Encoding.{Encodes, encoded}
use Rattle.list.specs.Meaning.{encoded-encodes}
use Rattle.plaid_types.specs.Keys as keys
use Rattle.plaid_types.specs.Keys.{key_length_of, bytes_of, value_of, of_length}
use Rattle.plaid_types.specs.KeyLaws.{held-wide, length-held, bytes-value}
use Rattle.plaid_types.specs.Cards.{no_set, with_session, Reply}
use Rattle.plaid_types.specs.declared.Value.{Value}
use Rattle.plaid_types.specs.declared.KeySetId.{KeySetId}
use Rattle.plaid_types.specs.declared.OpModeId.{OpModeId}
use Rattle.plaid_types.specs.declared.KeySetSlot.{KeySetSlot}
use Rattle.plaid_types.specs.declared.Session.{Session}
use Rattle.plaid_types.specs.declared.Card.{Card}
use Rattle.load.specs.Load.{some, repeated}
use Rattle.load.proofs.Laws.{map-take, GoodRecord, Stocked, stocked-length, stocked-state}
use Rattle.initial.specs.Initial.{slot_of, str1, block_of, opened_with, initial_reply}
use Rattle.final_command.specs.Final.{fa_key_of, rnd1_of as sessionRnd1, first_mode, final_reply}
use Rattle.final_command.specs.Laws.{length-body, take-body, body_bytes}
use Rattle.card.specs.Command.{reply_to, outcome, answer_bytes, verdict_on}
use Rattle.reader_list.specs.List.{numbers, given, list_command, list_number}
use Rattle.reader_list.specs.Laws.{Taken, command-taken}
use Rattle.reader_open.specs.Open.{no_id, opened, opened_at, open_number, winner, block_at, text_of, div_of, rnd1_of}
use Rattle.reader_open.specs.Laws.{opens_entry, winner-case}
use Rattle.reader_open.specs.declared.Opened.{Opened}
use Rattle.reader_seal.specs.Seal.{keys_hash_of, seal_command}
use Rattle.reader_seal.specs.Laws.{length-card_keys_hash}
use Rattle.reader_seal.specs.RoundTrip.{card_keys_hash-bytes}
use Rattle.reader_accept.specs.Accept.{accepted_of, work_after, record_part}
use Rattle.reader_accept.specs.declared.Accepted.{Accepted}
use Rattle.reader_accept.proofs.RoundTrip.{card_reply, reply-accepted, reply-record, reply-short}
use Rattle.session_initial.specs.Held.{held, first_held, first-held}
use Rattle.session_initial.specs.Answered.{Answers, list-answered}
use Rattle.session_final.specs.SealFrame.{seal-status, seal-ins}
use Rattle.session_final.specs.SealText.{SharedSession}
use Rattle.session_final.specs.SealReply.{sealed_slot, sealed_record, sealed_body, sealed-found, length-sealed_record, seal-reply}
use Rattle.session.specs.Parts.{goes_on, call-bytes, initial-card, block-text, text-div, text-rnd1, block-opens, winner-is}

-- the reply to an initial and to a final command
reply-initial : (c : Card) (cmd fresh d : List ℕ) → ins_of (frame_of cmd) ≡ initial_ins → data_of cmd ≡ d → reply_to c cmd fresh ≡ initial_reply c d fresh
unfolding reply_to
reply-initial c cmd fresh d i e = rw (i, e)

reply-final : (c : Card) (cmd fresh : List ℕ) → ins_of (frame_of cmd) ≡ final_ins → reply_to c cmd fresh ≡ final_reply c (data_of cmd) fresh
unfolding reply_to
reply-final c cmd fresh i = rw i

-- what List has shown that is not declined
pub listing : (ids : List KeySetId) (n room : ℕ) → list_number ids n room ≡ 0 → (1 ≤ n) × (n ≤ 16)
unfolding list_number
listing ids n room z = by (eqb n 0) (ltb 16 n) refl refl z
  where
    by : (a b : Bool) → eqb n 0 ≡ a → ltb 16 n ≡ b → ◌≡◌ {A = ℕ} (cond (a || b) 11 (cond (repeated (given ids n)) 12 (cond (ltb room (length (list_command (given ids n)))) 13 0))) 0 → (1 ≤ n) × (n ≤ 16)
    by true b p q e = absurd (omega arith)
    by false true p q e = absurd (omega arith)
    by false false p q e = (omega (arith, nonzero n p), ltb-false 16 n q)
      where
        nonzero : (m : ℕ) → eqb m 0 ≡ false → 1 ≤ m
        nonzero zero h = absurd (true≢false h)
        nonzero (suc m) h = omega arith

-- Open, where nothing is declined and the winner is known
opened-at : (l : ℕ) (ids : List KeySetId) (n : ℕ) (blocks : List ℕ) (j : ℕ) → is_key_length l ≡ true → 1 ≤ n → n ≤ 16 → length blocks ≡ 256 * n → winner l ids n blocks ≡ j → j < n →
    opened l ids n blocks ≡ opened_at l (get_or ids j no_id) blocks j
unfolding opened open_number
opened-at l ids n blocks j t a b e w h =
    let x : eqb n 0 ≡ false = ne_eqb n 0 (λ z. omega arith) in
    let y : ltb 16 n ≡ false = le-ltb 16 n b in
    let z : eqb (length blocks) (256 * n) ≡ true = eq-eqb (length blocks) (256 * n) e in
    let v : eqb (winner l ids n blocks) n ≡ false = ne_eqb (winner l ids n blocks) n (λ q. omega arith) in
    simp (t, x, y, z, v) (ap (λ (i : ℕ). opened_at l (get_or ids i no_id) blocks i) w)

-- where the count is right and 14 is not given, there are as many blocks as entries
counted-blocks : (l : ℕ) (ids : List KeySetId) (n : ℕ) (blocks : List ℕ) → is_key_length l ≡ true → 1 ≤ n → n ≤ 16 → ((opened l ids n blocks).number ≡ 14 → ⊥) → length blocks ≡ 256 * n
unfolding opened open_number
counted-blocks l ids n blocks k a b f = by (eqb (length blocks) (256 * n)) refl
  where
    by : (t : Bool) → eqb (length blocks) (256 * n) ≡ t → length blocks ≡ 256 * n
    by true e = eqb-true (length blocks) (256 * n) e
    by false e =
        let x : eqb n 0 ≡ false = ne_eqb n 0 (λ z. omega arith) in
        let y : ltb 16 n ≡ false = le-ltb 16 n b in
        absurd (f (simp (k, x, y, e)))

-- a session between a card c and a reader with keys of l bytes
module _ (l : ℕ) (c : Card) (ids : List KeySetId) (n i₁ : ℕ) (fresh₁ : List ℕ) (room₁ : ℕ) (blocks fa r2 payload : List ℕ) (mode : OpModeId) (i₂ : ℕ) (fresh₂ : List ℕ) (room₂ len : ℕ) (work : List ℕ) where
  -- the KeySetIDs listed, their numbers in List's command, and the card's answer to it
  abbrev pub entries : List KeySetId
  entries = take n ids

  abbrev pub listed : List ℕ
  listed = given ids n

  abbrev pub answer₁ : List ℕ
  answer₁ = answer_bytes c i₁ (list_command listed) fresh₁ room₁

  -- "the card gets no other command in between": the card that the initial command returned
  abbrev pub card₁ : Card
  card₁ = (outcome c i₁ (list_command listed) fresh₁ room₁).card

  -- the first listed set that the card holds: its place in the list, and its slot
  abbrev pub place : ℕ
  place = first_held c entries

  abbrev pub slot : KeySetSlot
  slot = get_or c.sets (slot_of c (encoded listed)) no_set

  -- what Open hands back, Seal's command, KeysHash as Seal hands it back and Accept gets it, and the card's answer to that command
  abbrev pub open₁ : Opened
  open₁ = opened l ids n blocks

  abbrev pub command₂ : List ℕ
  command₂ = seal_command l fa open₁.div_data (bytes_of open₁.rnd1) r2 mode payload

  abbrev pub hash : Value
  hash = value_of (keys_hash_of l (bytes_of open₁.rnd1) r2)

  abbrev pub answer₂ : List ℕ
  answer₂ = answer_bytes card₁ i₂ command₂ fresh₂ room₂

  -- the conditions of the promise
  pub record Conditions : Type 0 where
    pub stocked : Stocked c
    -- T-04: "A card and its reader have one key length L", and "The session promise also needs that neither 21 nor 22 arises": the card's L is one of
    -- the three, and RND2 has L bytes. So have the others then: `key-length`, `open-length` and `hash-length`
    pub one-length : l ≡ c.key_length
    pub rnd2-long : length r2 ≡ l
    -- "none of 8 to 14, 16, 17 and 19 arises" (16 and 17 make no difference to the command)
    pub list-room : ℕ
    pub list-made : list_number ids n list-room ≡ 0
    pub first-call : (outcome c i₁ (list_command listed) fresh₁ room₁).answer.number ≡ 0
    pub not-14 : open₁.number ≡ 14 → ⊥
    pub second_call : (outcome card₁ i₂ command₂ fresh₂ room₂).answer.number ≡ 0
    pub not-19 : (accepted_of l hash open₁.div_data len answer₂ (length work)).number ≡ 19 → ⊥
    -- "the first listed set that the card holds has equal FAKey at both ends"
    pub some-held : some (held c) entries ≡ true
    pub same_key : keys.held l slot.fa_key ≡ fa
    -- "platform decryption undoes encryption for it"
    pub decrypted : block_at blocks place ≡ answer₁
    -- "no earlier entry's block opens"
    pub no-earlier : (i : ℕ) → i < place → opens_entry l ids blocks i ≡ false
    -- "the mode is held"
    pub mode-held : first_mode 0 mode c.modes < 16
    -- T-01: "The reader gets the mode's record length, which a session needs to be the card's"
    pub same_length : len ≡ (sealed_slot c mode).len
    -- what the types of the inputs say: an array of sixteen KeySetIDs, numbers of two bytes, and bytes
    pub ids-long : length ids ≡ 16
    pub ids-small : (i : ℕ) → get_or listed i 0 < 65536
    pub mode_small : mode.0 < 65536
    pub div-bytes : Bytes c.div_data
    pub area-bytes : Bytes c.area
    pub key-bytes : Bytes fa
    pub rnd2-bytes : Bytes r2
    pub payload-bytes : Bytes payload

  module _ (k : Conditions) where
    g : Stocked c
    g = k.stocked

    -- L is the card's, and one of the three
    three : is_key_length l ≡ true
    three = ap is_key_length k.one-length ∙ g.length-one

    most : l ≤ 32
    most = length_most l three

    length-is : key_length_of c ≡ l
    length-is = stocked-length c g ∙ sym k.one-length

    range : (1 ≤ n) × (n ≤ 16)
    range = listing ids n k.list-room k.list-made

    listed-long : length listed ≡ n
    listed-long = length-take-le n (map (λ (x : KeySetId). x.0) ids) (omega (arith, length-map ids (λ (x : KeySetId). x.0), k.ids-long, range.1))

    taken : Taken listed (list_command listed)
    taken = command-taken listed (omega (arith, listed-long, range.0)) (omega (arith, listed-long, range.1)) k.ids-small

    ok₁ : eqb (verdict_on i₁ (key_length_of c) (list_command listed) fresh₁ room₁).status 0x9000 ≡ true
    ok₁ = goes_on c i₁ (list_command listed) fresh₁ room₁ taken.status k.first-call

    past : Passed i₁ l (length (list_command listed)) (frame_of (list_command listed)) fresh₁ room₁
    past =
        subst (λ (m : ℕ). Passed i₁ m (length (list_command listed)) (frame_of (list_command listed)) fresh₁ room₁) length-is
        (passed i₁ (key_length_of c) (length (list_command listed)) (frame_of (list_command listed)) fresh₁ room₁
        (eqb-true (verdict_on i₁ (key_length_of c) (list_command listed) fresh₁ room₁).status 0x9000 ok₁))

    entries-long : length entries ≡ n
    entries-long = length-take-le n ids (omega (arith, k.ids-long, range.1))

    numbers-are : numbers entries ≡ listed
    numbers-are = sym (map-take (λ (x : KeySetId). x.0) n ids)

    encodes : Encodes (numbers entries) (encoded (numbers entries))
    encodes = encoded-encodes (numbers entries) (omega (arith, length-map entries (λ (x : KeySetId). x.0), entries-long, range.1))

    answers : Answers l c fresh₁ (get_or entries place no_id) slot (initial_reply c (encoded listed) fresh₁)
    answers =
        subst (λ (m : ℕ). Answers m c fresh₁ (get_or entries place no_id) slot (initial_reply c (encoded listed) fresh₁)) (sym k.one-length)
        (rw numbers-are at (list-answered c g entries (encoded (numbers entries)) fresh₁ encodes k.some-held))

    reply₁ : reply_to c (list_command listed) fresh₁ ≡ initial_reply c (encoded listed) fresh₁
    reply₁ = reply-initial c (list_command listed) fresh₁ (encoded listed) taken.ins taken.list

    -- the entry's KeySetID, and RND1
    abbrev id : KeySetId
    id = get_or entries place no_id

    abbrev rnd1 : List ℕ
    rnd1 = part fresh₁ 0 l

    lr : length rnd1 ≡ l
    lr = length_part fresh₁ 0 l (omega (arith, past.fresh-long, most))

    block-is : block_at blocks place ≡ block_of l fresh₁ (str1 id c.div_data rnd1)
    block-is =
        k.decrypted
        ∙ call-bytes c i₁ (list_command listed) fresh₁ room₁ taken.status k.first-call
        ∙ ap (λ (r : Reply). r.bytes) reply₁
        ∙ answers.bytes

    opens_at : opens_entry l ids blocks place ≡ true
    opens_at =
        let e : get_or ids place no_id ≡ id = sym (get_or-take n ids place no_id (omega (arith, (first-held c entries k.some-held).within, entries-long))) in
        rw (block-is, e) (block-opens l id c.div_data rnd1 g.div-long lr most fresh₁ past.fresh-long past.pad-nonzero)

    wins : winner l ids n blocks ≡ place
    wins =
        winner-is l ids n blocks place (omega (arith, (first-held c entries k.some-held).within, entries-long)) opens_at k.no-earlier
        (winner-case l ids n blocks (omega (arith, k.ids-long, range.1)))

    -- Open hands back the first listed set that the card holds
    open_is : open₁ ≡ opened_at l (get_or ids place no_id) blocks place
    open_is =
        opened-at l ids n blocks place three range.0 range.1 (counted-blocks l ids n blocks three range.0 range.1 k.not-14) wins
        (omega (arith, (first-held c entries k.some-held).within, entries-long))

    text-is : text_of l (block_at blocks place) ≡ str1 id c.div_data rnd1
    text-is = ap (text_of l) block-is ∙ block-text l id c.div_data rnd1 g.div-long lr most fresh₁ past.fresh-long past.pad-nonzero

    pub open-div : open₁.div_data ≡ c.div_data
    open-div =
        ap (λ (x : Opened). x.div_data) open_is
        ∙ ap div_of text-is
        ∙ text-div l id c.div_data rnd1 g.div-long lr

    pub open-rnd1 : open₁.rnd1 ≡ value_of (part fresh₁ 0 l)
    open-rnd1 =
        ap (λ (x : Opened). x.rnd1) open_is
        ∙ ap (λ (t : List ℕ). value_of (rnd1_of l t)) text-is
        ∙ ap value_of (text-rnd1 l id c.div_data rnd1 g.div-long lr)

    -- RND1 has L bytes: Seal does not give 22 for it
    pub open-length : of_length l open₁.rnd1 ≡ true
    open-length = eq-eqb open₁.rnd1.length l (ap (λ (v : Value). v.length) open-rnd1 ∙ lr)

    open-bytes : bytes_of open₁.rnd1 ≡ rnd1
    open-bytes = ap bytes_of open-rnd1 ∙ bytes-value rnd1

    -- the card after the initial command: its session is that of the set, with RND1
    s₁ : Session
    s₁ = opened_with slot rnd1

    card-is : card₁ ≡ with_session c s₁
    unfolding s₁
    card-is =
        initial-card c i₁ (list_command listed) fresh₁ room₁ taken.status taken.ins k.first-call
        ∙ ap (with_session c) (ap (λ (r : Reply). r.session) reply₁ ∙ answers.session)

    -- T-07: and its FAKey
    key-is : fa_key_of (with_session c s₁) ≡ fa
    unfolding fa_key_of s₁
    key-is = ap (λ (m : ℕ). keys.held m slot.fa_key) length-is ∙ k.same_key

    -- the FAKey has L bytes: Seal does not give 22 for it
    pub key-length : length fa ≡ l
    key-length = sym (ap length k.same_key) ∙ length-held l slot.fa_key (omega (arith, g.fa-long (slot_of c (encoded listed)), most))

    rnd1-is : sessionRnd1 (with_session c s₁) ≡ rnd1
    unfolding sessionRnd1 s₁
    rnd1-is = held-wide (key_length_of c) rnd1 (lr ∙ sym length-is)

    shared : SharedSession l (with_session c s₁) fa rnd1 r2 mode payload
    unfolding s₁
    shared =
        record {
          same_length = length-is;
          in-session = refl;
          same_key = key-is;
          same-rnd1 = rnd1-is;
          key-bytes = k.key-bytes;
          div-block = record { long = g.div-long; byte = k.div-bytes };
          rnd2-long = k.rnd2-long;
          rnd2-bytes = k.rnd2-bytes;
          payload-bytes = k.payload-bytes;
          mode-most = k.mode_small;
        }

    cmd₂ : List ℕ
    cmd₂ = seal_command l fa c.div_data rnd1 r2 mode payload

    cmd-is : command₂ ≡ cmd₂
    unfolding cmd₂
    cmd-is = ap₂ (λ (d r : List ℕ). seal_command l fa d r r2 mode payload) open-div open-bytes

    rec : List ℕ
    rec = sealed_record c mode

    -- the body that the card replies with
    body : List ℕ
    body = sealed_body (with_session c s₁) mode

    answer-is : answer₂ ≡ card_reply (keys_hash_of l rnd1 r2) body c.div_data
    unfolding cmd₂ body
    answer-is =
        let z : (outcome (with_session c s₁) i₂ cmd₂ fresh₂ room₂).answer.number ≡ 0 =
        sym (ap₂ (λ (e : Card) (x : List ℕ). (outcome e i₂ x fresh₂ room₂).answer.number) card-is cmd-is) ∙ k.second_call in
        ap₂ (λ (e : Card) (x : List ℕ). answer_bytes e i₂ x fresh₂ room₂) card-is cmd-is
        ∙ call-bytes (with_session c s₁) i₂ cmd₂ fresh₂ room₂ (seal-status l fa c.div_data rnd1 r2 mode payload) z
        ∙ ap (λ (r : Reply). r.bytes) (reply-final (with_session c s₁) cmd₂ fresh₂ (seal-ins l fa c.div_data rnd1 r2 mode payload))
        ∙ seal-reply l (with_session c s₁) fa rnd1 r2 mode payload shared (stocked-state c s₁ c.tries g) k.mode-held fresh₂

    good : GoodRecord (sealed_slot c mode) c.reply_size
    good = g.good (first_mode 0 mode c.modes) (sealed-found c mode g k.mode-held).is_held

    -- the record is the body's front, of as many bytes as the reader was given
    rec-long : length rec ≡ len
    unfolding rec
    rec-long = length-sealed_record c mode g k.mode-held ∙ sym k.same_length

    body-front : take len body ≡ rec
    unfolding rec body s₁
    body-front = take-body rec c.reply_size len rec-long

    body-long : length body ≡ length rec + (16 * (c.reply_size - 2) - length rec)
    unfolding rec body s₁
    body-long = length-body rec c.reply_size

    text-bytes : Bytes body
    unfolding rec body s₁
    text-bytes = body_bytes rec c.reply_size (part_bytes c.area (sealed_slot c mode).start (sealed_slot c mode).len k.area-bytes)

    -- KeysHash of the card's RND1
    h₁ : Value
    h₁ = value_of (keys_hash_of l rnd1 r2)

    hash-is : hash ≡ h₁
    unfolding h₁
    hash-is = ap (λ (r : List ℕ). value_of (keys_hash_of l r r2)) open-bytes

    -- KeysHash has L bytes: Accept does not give 22
    pub hash-length : hash.length ≡ l
    hash-length = length-card_keys_hash l (bytes_of open₁.rnd1) r2 three

    hash-right : h₁.length ≡ l
    unfolding h₁
    hash-right = length-card_keys_hash l rnd1 r2 three

    hash-held : bytes_of h₁ ≡ keys_hash_of l rnd1 r2
    unfolding h₁
    hash-held = bytes-value (keys_hash_of l rnd1 r2)

    hash-bytes : Bytes (bytes_of h₁)
    hash-bytes = rw hash-held (card_keys_hash-bytes l rnd1 r2)

    abbrev reply₂ : List ℕ
    reply₂ = card_reply (bytes_of h₁) body c.div_data

    reply-is : answer₂ ≡ reply₂
    reply-is = answer-is ∙ ap (λ (x : List ℕ). card_reply x body c.div_data) (sym hash-held)

    -- what Accept gets is the card's reply
    accepts-reply : accepted_of l hash open₁.div_data len answer₂ (length work) ≡ accepted_of l h₁ c.div_data len reply₂ (length work)
    accepts-reply =
        ap₂ (λ (a : Value) (b : List ℕ). accepted_of l a b len answer₂ (length work)) hash-is open-div
        ∙ ap (λ (a : List ℕ). accepted_of l h₁ c.div_data len a (length work)) reply-is

    div-block : Block c.div_data
    div-block = record { long = g.div-long; byte = k.div-bytes }

    len-some : 1 ≤ len
    len-some = omega (arith, k.same_length, good.some_bytes)

    len-within : len ≤ length body
    len-within = omega (arith, body-long, rec-long)

    some_bytes : 1 ≤ length body
    some_bytes = omega (arith, len-some, len-within)

    most_bytes : length body ≤ 64
    most_bytes = omega (arith, body-long, rec-long, k.same_length, good.most_bytes, g.size-most)

    room_by : (t : Bool) → ltb (length work) (length reply₂) ≡ t → length reply₂ ≤ length work
    room_by true e =
        absurd
        (k.not-19
        (ap (λ (a : Accepted). a.number) accepts-reply
        ∙ reply-short l h₁ three hash-right body c.div_data len work hash-bytes text-bytes div-block some_bytes most_bytes (ltb-true _ _ e)))
    room_by false e = ltb-false (length work) (length reply₂) e

    room-is : length reply₂ ≤ length work
    room-is = room_by (ltb (length work) (length reply₂)) refl

    -- THE SESSION PROMISE: Accept gives no number, and returns the record of that mode, and no byte of its payload
    pub session-number : accepted_of l hash open₁.div_data len answer₂ (length work) ≡ record { number = 0; length = (sealed_slot c mode).len }
    session-number =
        accepts-reply
        ∙ reply-accepted l h₁ three hash-right body c.div_data len work hash-bytes text-bytes div-block some_bytes most_bytes room-is len-some len-within
        ∙ ap (λ (m : ℕ). record { number = 0; length = m }) k.same_length

    pub session-record : record_part (work_after l hash open₁.div_data len answer₂ work) (accepted_of l hash open₁.div_data len answer₂ (length work)) ≡ sealed_record c mode
    unfolding rec
    session-record =
        ap₂ (λ (a : Value) (b : List ℕ). record_part (work_after l a b len answer₂ work) (accepted_of l a b len answer₂ (length work))) hash-is open-div
        ∙ ap (λ (a : List ℕ). record_part (work_after l h₁ c.div_data len a work) (accepted_of l h₁ c.div_data len a (length work))) reply-is
        ∙ reply-record l h₁ three hash-right body c.div_data len work hash-bytes text-bytes div-block some_bytes most_bytes room-is len-some len-within
        ∙ body-front
