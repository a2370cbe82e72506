-- Whole sessions, closed, for each L: every hypothesis of the two claims is met. The card's first session is broken off behind its initial command, and
-- its key sets are changed (T-07); the reader then lists a set that the card does not hold and one that it does, under its new key, and asks for a record
-- of 4 bytes or for one of 16. Between the two commands the set is dropped, and a load without sets is refused. Assumes nothing.
use Rattle.std.proofs.Math.Path.{◌≡◌, refl, ap}
use Rattle.std.proofs.Common.{sym, ◌∙◌, drop_at}
use Rattle.std.specs.Prelude.{Bool, true, false, cond, not, List, [], ◌∷◌, ◌++◌, eqb, ltb, length, get_or, take, drop, replicate}
use Prim.Native.Nat.{ℕ, zero, suc, ◌+◌, ◌*◌, ◌<◌, ◌≤◌}
use native.Mathlib.Omega.{arith}
use Rattle.std.proofs.Math.ListN.{length-append, length-replicate}
use Rattle.std.proofs.Math.Seq.{take_all}
use borrow.Author.Tests.{le-ltb, eq-eqb, ne_eqb}
use Rattle.octets.specs.Bytes.{Bytes}
use Rattle.octets.specs.Lists.{part, over}
use Rattle.key_expansion.specs.KeyLength.{is_key_length, each-length, length_most}
use Rattle.plaid_types.specs.Keys.{key_length_of, bytes_of, str1_length, lawful, wide, held}
use Rattle.plaid_types.specs.declared.Value.{Value}
use Rattle.plaid_types.specs.declared.KeySet.{KeySet}
use Rattle.plaid_types.specs.declared.KeySetId.{KeySetId}
use Rattle.plaid_types.specs.Tries.{is_interface, no_tries}
use Rattle.plaid_types.specs.declared.Tries.{Tries}
use Rattle.plaid_types.specs.declared.Card.{Card}
use Rattle.frame.specs.Frame.{frame_of, whole, status_of, data_of}
use Rattle.frame.specs.Declines.{pad_bytes, no_zero, verdict}
use Rattle.load.specs.Load.{past_set, past_mode, refusal, sets_refusal, modes_refusal, table_of, loaded_card, loaded, filled}
use Rattle.key_change.specs.KeyChange.{changed, sets_loaded, takes_sets}
use Rattle.card.specs.Command.{reply_to, done, undone, verdict_on, outcome, answer_bytes}
use Rattle.card.specs.Lists.{Call, Place, command, key_sets, card_after, calls, loads, Agree, none, more}
use Rattle.reader_list.specs.List.{list_number, listed, list_output, list_command}
use Rattle.list.specs.Ber.{fitting, length_at, entry_at, head, walked, ended}
use Rattle.list.specs.Ber as ber
use Rattle.list.specs.Encoding.{encoded, short_entries}
use Rattle.initial.specs.Initial.{first_place, slot_of, str1, block_of, initial_reply}
use Rattle.reader_open.specs.Open.{no_id, formed, opens_as, block_at, winner, opened, open_number}
use Rattle.reader_open.specs.Open.{agrees}
use Rattle.reader_seal.specs.Seal.{lc_of, payload_most, seal_number}
use Rattle.reader_seal.specs.Laws.{seal-number, length-card_keys_hash}
use Rattle.reader_accept.specs.Accept.{known_length, deciphered_text, acceptable, accept_number, accepted_of}
use Rattle.reader_accept.proofs.Laws.{known}
use Rattle.plaid.specs.Interface.{load_of}
use Rattle.claims.specs.Load.{Load, TypedValue, TypedPlaces, card_of, sets_after, sets_at}
use Rattle.claims.specs.Loaded.{size-given, handle-given, length-is, key-given}
use Rattle.claims.specs.Loads.{key, key_of, set, mode, given, area, load-of, load_one, two-keys}
use Rattle.claims.specs.Demand3.{shapes}
use Rattle.claims.specs.Demand3Holds.{demand-3}
use Rattle.claims.specs.Session.{Exchange, Conditions, answer₁, open₁, seal, returned}
use Rattle.claims.specs.Found.{seal-hash}
use Rattle.claims.specs.SessionHolds.{session-promise}

-- a call whose platform lends what it should gets no number, whatever the command
module _ (c : Card) (i : ℕ) (cmd fresh : List ℕ) (room : ℕ) (known : is_interface i ≡ true) (lf : length fresh ≡ 253) (nz : no_zero (pad_bytes (key_length_of c) fresh) ≡ true) (h : 256 ≤ room) where
  verdict-is : verdict_on i (key_length_of c) cmd fresh room ≡ record { number = 0; status = status_of (length cmd) (frame_of cmd) }
  unfolding verdict
  verdict-is = rw (known, eq-eqb (length fresh) 253 lf, nz, le-ltb room 256 h)

  by : (t : Bool) (u : Tries) → (cond t (done c u (reply_to c cmd fresh)) (undone c (verdict_on i (key_length_of c) cmd fresh room))).answer.number ≡ 0
  by true u = refl
  by false u = rw verdict-is

  pub no_number : (outcome c i cmd fresh room).answer.number ≡ 0
  unfolding outcome
  no_number = by (eqb (verdict_on i (key_length_of c) cmd fresh room).status 0x9000) _

-- and 96 bytes of work buffer are enough for every response
pub work-enough : (l : ℕ) (hash : Value) (div : List ℕ) (len : ℕ) (response : List ℕ) (room : ℕ) → is_key_length l ≡ true → hash.length ≡ l → 96 ≤ room →
    ((accepted_of l hash div len response room).number ≡ 19 → ⊥) × ((accepted_of l hash div len response room).number ≡ 21 → ⊥) × ((accepted_of l hash div len response room).number ≡ 22 → ⊥)
unfolding accepted_of accept_number
work-enough l hash div len response room k e h = rw (k, eq-eqb hash.length l e) (by (known_length (length response)) (acceptable (deciphered_text (bytes_of hash) response) div len) refl)
  where
    by : (s t : Bool) → known_length (length response) ≡ s →
        (◌≡◌ {A = ℕ} (cond (not s) 18 (cond (ltb room (length response)) 19 (cond t 0 20))) 19 → ⊥)
        × (◌≡◌ {A = ℕ} (cond (not s) 18 (cond (ltb room (length response)) 19 (cond t 0 20))) 21 → ⊥)
        × (◌≡◌ {A = ℕ} (cond (not s) 18 (cond (ltb room (length response)) 19 (cond t 0 20))) 22 → ⊥)
    by true true q = let m = (known (length response) q).most in rw (le-ltb room (length response) (omega arith)) ((λ z. omega arith), (λ z. omega arith), (λ z. omega arith))
    by true false q = let m = (known (length response) q).most in rw (le-ltb room (length response) (omega arith)) ((λ z. omega arith), (λ z. omega arith), (λ z. omega arith))
    by false t q = ((λ z. omega arith), (λ z. omega arith), (λ z. omega arith))

-- as many blocks as entries, and 14 is not given
pub open-counted : (l : ℕ) (ids : List KeySetId) (n : ℕ) (blocks : List ℕ) → is_key_length l ≡ true → 1 ≤ n → n ≤ 16 → length blocks ≡ 256 * n →
    ((opened l ids n blocks).number ≡ 14 → ⊥) × ((opened l ids n blocks).number ≡ 21 → ⊥)
unfolding opened open_number
open-counted l ids n blocks k a b e = by (eqb (winner l ids n blocks) n) refl
  where
    by : (t : Bool) → eqb (winner l ids n blocks) n ≡ t → ((opened l ids n blocks).number ≡ 14 → ⊥) × ((opened l ids n blocks).number ≡ 21 → ⊥)
    by true q = rw (k, ne_eqb n 0 (λ m. omega arith), le-ltb 16 n b, eq-eqb (length blocks) (256 * n) e, q) ((λ z. omega arith), (λ z. omega arith))
    by false q = rw (k, ne_eqb n 0 (λ m. omega arith), le-ltb 16 n b, eq-eqb (length blocks) (256 * n) e, q) ((λ z. omega arith), (λ z. omega arith))

-- T-04: for each of the three L there is a successful load
pub each-load : (l : ℕ) → is_key_length l ≡ true → (x : Load) × (x.given.key_length ≡ l)
unfolding load_one load-of given
each-load l three = (load_one l 4 three (omega arith) (omega arith), refl)

unfoldable pub fresh : List ℕ
fresh = replicate 253 1

ones : (n m : ℕ) → no_zero (drop n (replicate m 1)) ≡ true
ones zero zero = refl
ones zero (suc m) = ones zero m
ones (suc n) zero = refl
ones (suc n) (suc m) = ones n m

fresh-good : (l : ℕ) → no_zero (pad_bytes l fresh) ≡ true
unfolding fresh pad_bytes
fresh-good l = ones (str1_length l) 253

fresh-long : length fresh ≡ 253
unfolding fresh
fresh-long = refl

-- 30 04 04 02 00 01, framed: the first set's session, broken off
unfoldable pub broken-off : Call
broken-off = record { interface = 1; command = 0 ∷ 0x87 ∷ 0 ∷ 0 ∷ 6 ∷ 0x30 ∷ 4 ∷ 4 ∷ 2 ∷ 0 ∷ 1 ∷ 0 ∷ []; fresh = fresh; room = 256 }

numbers-small : (i : ℕ) → (get_or (record { 0 = 8 } ∷ record { 0 = 2 } ∷ replicate 14 no_id) i no_id).0 < 65536
numbers-small zero = omega arith
numbers-small (suc zero) = omega arith
numbers-small (suc (suc i)) = by 14 i
  where
    by : (n i : ℕ) → (get_or (replicate n no_id) i no_id).0 < 65536
    by zero i = omega arith
    by (suc n) zero = omega arith
    by (suc n) (suc i) = by n i

payload-small : Bytes (1 ∷ 2 ∷ 3 ∷ [])
payload-small zero = omega arith
payload-small (suc zero) = omega arith
payload-small (suc (suc zero)) = omega arith
payload-small (suc (suc (suc i))) = omega arith

-- T-04: "A card and its reader have one key length L", k
module _ (k : ℕ) (three : is_key_length k ≡ true) where
  -- the loads, of one B: sets 1 and 2, with records of 4 and 16 bytes; and sets 3 and 4, with records of 31 and 1
  unfoldable pub one-two : Load
  unfolding set mode given area load_of loaded refusal sets_refusal modes_refusal
  one-two = load-of k (set k 1 ∷ set k 2 ∷ []) (mode 7 0 4 ∷ mode 8 4 16 ∷ []) 4 16 (omega arith) (two-keys k 1 2 (omega arith) (omega arith)) (rw (three, eq-eqb k k refl))

  unfoldable pub three-four : Load
  unfolding set mode given area load_of loaded refusal sets_refusal modes_refusal
  three-four = load-of k (set k 3 ∷ set k 4 ∷ []) (mode 7 0 31 ∷ mode 8 31 1 ∷ []) 31 1 (omega arith) (two-keys k 3 4 (omega arith) (omega arith)) (rw (three, eq-eqb k k refl))

-- the new key sets: 9, and 2 with another key
unfoldable pub renewed : ℕ → List KeySet
renewed k = set k 9 ∷ record { id = record { 0 = 2 }; handle = 4; fa_key = key k 6 } ∷ []

renewed-typed : (k i : ℕ) → i < 2 → TypedValue (get_or (renewed k) i past_set).fa_key
unfolding set renewed
renewed-typed k zero p = key_of k 9 (omega arith)
renewed-typed k (suc zero) p = key_of k 6 (omega arith)
renewed-typed k (suc (suc i)) p = absurd (omega arith)

unfoldable pub past : ℕ → List Place
past k = command broken-off ∷ key_sets (renewed k) ∷ []

takes-renewed : (k : ℕ) (three : is_key_length k ≡ true) → takes_sets (card_of (one-two k three)) (renewed k) ≡ true
unfolding one-two load-of mode given area set renewed load_of loaded refusal sets_refusal modes_refusal loaded_card is_key_length lawful
takes-renewed k three = each-length (λ (n : ℕ). (t : is_key_length n ≡ true) → takes_sets (card_of (one-two n t)) (renewed n) ≡ true) k three (λ t. refl) (λ t. refl) (λ t. refl) three

-- so they are the table's
sets-renewed : (k : ℕ) (three : is_key_length k ≡ true) → sets_at (one-two k three) (past k) ≡ renewed k
unfolding sets_after past
sets-renewed k three = rw (takes-renewed k three)

-- the reader lists 8 and 2, and wants mode m, with a record of n bytes, for a payload. RSA is the identity here: what the platform decrypted for the second
-- entry is the card's answer
module _ (k : ℕ) (three : is_key_length k ≡ true) (payload : List ℕ) where
  unfoldable pub exchange : ℕ → ℕ → List ℕ → Exchange
  exchange m n blocks =
      record {
        load = one-two k three;
        before = past k;
        key_length = k;
        ids = record { 0 = 8 } ∷ record { 0 = 2 } ∷ replicate 14 no_id;
        count = 2;
        list_out = replicate 16 0;
        interface₁ = 0;
        fresh₁ = fresh;
        room₁ = 256;
        between = (set k 5 ∷ []) ∷ [] ∷ [];
        blocks = blocks;
        fa_key = key k 6;
        rnd2 = key k 3;
        mode = record { 0 = m };
        payload = payload;
        seal_out = replicate (lc_of k (length payload) + 6) 0;
        interface₂ = 1;
        fresh₂ = fresh;
        room₂ = 300;
        record_length = n;
        work = replicate 96 0;
      }

  unfoldable pub first : List ℕ
  first = answer₁ (exchange 7 4 [])

  unfoldable pub session : ℕ → ℕ → Exchange
  session m n = exchange m n (replicate 256 0 ++ first)

-- the card's answer is a block, and Open hands back an RND1 of L bytes
first-long : (k : ℕ) (three : is_key_length k ≡ true) (p : List ℕ) → length (first k three p) ≡ 256
unfolding first exchange past renewed one-two load-of mode given area set fresh broken-off load_of loaded refusal sets_refusal modes_refusal table_of loaded_card filled changed sets_loaded is_key_length lawful wide held str1_length listed list_number list_output list_command encoded short_entries part over card_after outcome answer_bytes reply_to verdict is_interface frame_of status_of whole data_of pad_bytes initial_reply slot_of first_place fitting length_at entry_at head walked ended ber.listed str1 block_of
first-long k three p = each-length (λ (n : ℕ). (t : is_key_length n ≡ true) → length (first n t p) ≡ 256) k three (λ t. refl) (λ t. refl) (λ t. refl) three

rnd1-long : (k : ℕ) (three : is_key_length k ≡ true) (p : List ℕ) (m n : ℕ) → (open₁ (session k three p m n)).rnd1.length ≡ k
unfolding first exchange past renewed one-two load-of mode given area set fresh broken-off load_of loaded refusal sets_refusal modes_refusal table_of loaded_card filled changed sets_loaded is_key_length lawful wide held str1_length listed list_number list_output list_command encoded short_entries part over card_after outcome answer_bytes reply_to verdict is_interface frame_of status_of whole data_of pad_bytes initial_reply slot_of first_place fitting length_at entry_at head walked ended ber.listed str1 block_of session opened open_number opens_as formed agrees
rnd1-long k three p m n = each-length (λ (l : ℕ). (t : is_key_length l ≡ true) → (open₁ (session l t p m n)).rnd1.length ≡ l) k three (λ t. refl) (λ t. refl) (λ t. refl) three

-- for mode m, a length of n and a payload within Seal's limit, whatever they are
module _ (k : ℕ) (three : is_key_length k ≡ true) (p : List ℕ) (bytes : Bytes p) (fits : length p ≤ payload_most k) (m n : ℕ) where
  abbrev e : Exchange
  e = session k three p m n

  -- the block of the first entry does not open, and that of the second is the card's answer
  none-opens : (i : ℕ) → i < 1 → opens_as k (get_or e.ids i no_id) (block_at e.blocks i) ≡ false
  unfolding session exchange opens_as formed part
  none-opens zero h = refl
  none-opens (suc i) h = absurd (omega arith)

  decrypted : block_at e.blocks 1 ≡ answer₁ e
  unfolding session exchange part first
  decrypted = ap (take 256) (drop_at (replicate 256 0) (first k three p) 256 refl) ∙ take_all 256 (first k three p) (omega (arith, first-long k three p))

  none-earlier : (i j : ℕ) → i < 1 → j < 2 → (get_or (renewed k) j past_set).id ≡ get_or e.ids i no_id → ⊥
  unfolding session exchange renewed set
  none-earlier zero zero h l q = let z : ◌≡◌ {A = ℕ} 9 8 = ap (λ (x : KeySetId). x.0) q in omega arith
  none-earlier zero (suc zero) h l q = let z : ◌≡◌ {A = ℕ} 2 8 = ap (λ (x : KeySetId). x.0) q in omega arith
  none-earlier zero (suc (suc j)) h l q = omega arith
  none-earlier (suc i) j h l q = omega arith

  blocks-long : length e.blocks ≡ 512
  unfolding session exchange
  blocks-long = length-append (replicate 256 0) (first k three p) ∙ omega (arith, first-long k three p)

  -- so Seal does its work, and KeysHash has as many bytes as RND1
  sealed-so : (seal e).number ≡ 0
  unfolding session exchange seal_number
  sealed-so =
      let r : ℕ = lc_of k (length p) + 6 in
      seal-number k (key k 6) (open₁ e).div_data (open₁ e).rnd1 (key k 3) (record { 0 = m }) p (length (replicate {A = ℕ} r 0))
      ∙ rw (
        three,
        eq-eqb k k refl,
        eq-eqb (open₁ e).rnd1.length k (rnd1-long k three p m n),
        le-ltb (payload_most k) (length p) fits,
        le-ltb (length (replicate {A = ℕ} r 0)) r (omega (arith, length-replicate {A = ℕ} r 0)),
      )

  hash-long : (seal e).keys_hash.length ≡ k
  unfolding session exchange
  hash-long =
      ap (λ (v : Value). v.length) (seal-hash k (key k 6) (open₁ e).div_data (open₁ e).rnd1 (key k 3) (record { 0 = m }) p (replicate (lc_of k (length p) + 6) 0) sealed-so)
      ∙ length-card_keys_hash k _ _ three

  -- the conditions of the session promise are met, where the load has that mode with such a record
  pub conditions : (at : ℕ) → at < 2 → m < 65536 → (get_or (one-two k three).given.modes at past_mode).id ≡ record { 0 = m } →
      n ≡ (get_or (one-two k three).given.modes at past_mode).len → Conditions (session k three p m n)
  unfolding session exchange past renewed is_interface one-two load-of given set listed list_number list_output list_command encoded short_entries TypedPlaces
  conditions at within small same-mode same_length =
      let are = sets-renewed k three in
      record {
        place = 1;
        set = 1;
        place-listed = omega arith;
        set-loaded = rw are (omega arith);
        same_id = rw are;
        none-earlier = rw are none-earlier;
        same_key = rw are;
        decrypted = decrypted;
        none-opens = none-opens;
        at = at;
        mode-loaded = within;
        same-mode = same-mode;
        same_length = same_length;
        list_done = refl;
        first_done = no_number _ 0 _ fresh 256 refl fresh-long (fresh-good _) (omega arith);
        open_done = open-counted k e.ids 2 e.blocks three (omega arith) (omega arith) blocks-long;
        seal-done = sealed-so;
        second-done = no_number _ 1 _ fresh 300 refl fresh-long (fresh-good _) (omega arith);
        accept-done = work-enough k _ _ _ _ 96 three hash-long (omega arith);
        ids-long = refl;
        ids-small = numbers-small;
        mode_small = small;
        key-typed = key_of k 6 (omega arith);
        rnd2-typed = key_of k 3 (omega arith);
        payload-bytes = bytes;
        before-typed = (renewed-typed k, tt);
      }

-- so the reader gets the four bytes that the load was given for mode 7, with no payload, which makes the shortest text; and the sixteen for mode 8
pub wiegand-comes : (k : ℕ) (three : is_key_length k ≡ true) → returned (session k three [] 7 4) ≡ replicate 4 0xAA
unfolding session exchange one-two load-of mode given area part conditions
wiegand-comes k three = (session-promise (session k three [] 7 4) (conditions k three [] (λ i. omega arith) (omega arith) 7 4 0 (omega arith) (omega arith) refl refl)).record-returned

pub uuid-comes : (k : ℕ) (three : is_key_length k ≡ true) → returned (session k three (1 ∷ 2 ∷ 3 ∷ []) 8 16) ≡ replicate 16 0xBB
unfolding session exchange one-two load-of mode given area part conditions
uuid-comes k three =
    (session-promise (session k three (1 ∷ 2 ∷ 3 ∷ []) 8 16)
    (conditions k three (1 ∷ 2 ∷ 3 ∷ []) payload-small (omega (arith, length_most k three)) 8 16 1 (omega arith) (omega arith) refl refl)).record-returned

-- and those of demand 3, for two cards that hold other sets and differ in all their record lengths, and for two lists of other data and, by T-07, other
-- key sets, of which one list's are taken and the other's refused
same-shill : (k : ℕ) (three : is_key_length k ≡ true) → Agree (card_of (one-two k three)) (card_of (three-four k three))
unfolding one-two three-four load-of mode given
same-shill k three =
    let x : Load = one-two k three in
    let y : Load = three-four k three in
    record {
      key_lengths = length-is x ∙ sym (length-is y);
      key = key-given x ∙ sym (key-given y);
      handle = handle-given x ∙ sym (handle-given y);
      size = size-given x ∙ sym (size-given y);
    }

unfoldable pub other-list : Call
other-list = record { interface = 1; command = 0 ∷ 0x87 ∷ 0 ∷ 0 ∷ 6 ∷ 0x30 ∷ 4 ∷ 4 ∷ 2 ∷ 0 ∷ 7 ∷ 0 ∷ []; fresh = fresh; room = 256 }

pub both-alike : (k : ℕ) (three : is_key_length k ≡ true) →
    shapes (one-two k three) no_tries (key_sets (renewed k) ∷ command broken-off ∷ []) ≡ shapes (three-four k three) (record { contact = 3; contactless = 65535 }) (key_sets [] ∷ command other-list ∷ [])
unfolding frame_of part broken-off other-list
both-alike k three =
    (demand-3 (one-two k three)).alike (three-four k three) no_tries (record { contact = 3; contactless = 65535 }) (same-shill k three)
    (more loads (more (calls (record { interfaces = refl; frames = refl; lengths = refl; fresh = refl; rooms = refl })) none))
