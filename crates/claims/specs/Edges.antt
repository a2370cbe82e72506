-- The edges of document 01 that are marked P, and those of T-01, T-02 and T-04, as one list of statements. Each speaks of what the operations hand
-- back: a load, a command call, Seal, unpadding. `EdgesHold` has the one theorem that all of them hold.
use Rattle.std.specs.Prelude.{◌≡◌, true, false, List, [], ◌∷◌, ◌++◌, map, ℕ, ◌+◌, ◌-◌, ◌*◌, ◌/◌, ◌%◌, ◌<◌, ◌≤◌, length, get_or, take, drop, replicate}
use Rattle.octets.specs.Lists.{part}
use Rattle.aes.specs.Aes.{aes_under}
use Rattle.cbc.specs.Cbc.{zeros, encrypted}
use Rattle.padding.specs.Method2.{padded, rightly, unpadded}
use Rattle.std.specs.Prelude.{Some, None}
use Rattle.plaid_types.specs.Keys as keys
use Rattle.plaid_types.specs.Keys.{str1_length}
use Rattle.plaid_types.specs.Tries.{is_interface, tries_after}
use Rattle.plaid_types.specs.Cards.{no_session, with_session, with_tries}
use Rattle.plaid_types.specs.declared.Value.{Value}
use Rattle.plaid_types.specs.declared.OpModeId.{OpModeId}
use Rattle.plaid_types.specs.declared.Mode.{Mode}
use Rattle.plaid_types.specs.declared.Session.{Session}
use Rattle.plaid_types.specs.declared.Tries.{Tries}
use Rattle.plaid_types.specs.declared.Card.{Card}
use Rattle.load.specs.Load.{past_set, past_mode, set_slot}
use Rattle.frame.specs.Frame.{data_of}
use Rattle.initial.specs.Initial.{opened_with}
use Rattle.final_command.specs.Final.{text_of, card_keys_hash, op_mode, mode_of, deciphered_text}
use Rattle.card.specs.Lists.{Call, Place, card_after, outcome_of, bytes_of, is_initial, accepted}
use Rattle.reader_seal.specs.Seal.{sealed_of, seal_output, seal_declined}
use Rattle.reader_seal.specs.declared.Sealed.{Sealed}
use Rattle.claims.specs.Load.{Load, card_of, record_given}

-- an edge about the successful loads with the property p: there is one, and q holds of each
abbrev pub Of : (Load → Type 0) → (Load → Type 0) → Type 0
Of p q = ((l : Load) × p l) × ((l : Load) → p l → q l)

-- the same of all successful loads
abbrev pub OfAll : (Load → Type 0) → Type 0
OfAll q = Load × ((l : Load) → q l)

-- its key set number i, counted from 0, has KeySetID k
pub record Gave (l : Load) (i k : ℕ) : Type 0 where
  pub within : i < length l.sets
  pub id : (get_or l.sets i past_set).id.0 ≡ k

-- "Frame: CLA 00, INS 87 (initial) or 86 (final), P1 P2 0000, Lc .., Lc data bytes, Le 00"
abbrev pub framed : ℕ → List ℕ → List ℕ
framed ins d = 0 ∷ ins ∷ 0 ∷ 0 ∷ length d ∷ (d ++ (0 ∷ []))

-- no "8 fresh bytes not 253; 9 a zero pad byte; 10 output below 256"; the pad bytes are those behind the first 50. T-04: "STR1 is then
-- 50, 66 or 82 bytes, and the pad bytes are 203, 187 or 171 of the same 253", of l. T-06: and no "26 unknown interface"
pub record Lent (l i : ℕ) (fresh : List ℕ) (room : ℕ) : Type 0 where
  pub interface-known : is_interface i ≡ true
  pub fresh-long : length fresh ≡ 253
  pub pads-nonzero : (i : ℕ) → str1_length l ≤ i → i < 253 → get_or fresh i 0 ≡ 0 → ⊥
  pub room-enough : 256 ≤ room

-- the load's card in a state of its own: with the session s and, by T-06, the failed tries u
abbrev pub in_state : Load → Session → Tries → Card
in_state l s u = with_tries (with_session (card_of l) s) u

-- what the type of a session says: RND1 and, by T-07, the FAKey are arrays of 32 bytes
pub record TypedSession (s : Session) : Type 0 where
  pub rnd1 : length s.rnd1 ≡ 32
  pub key : length s.fa_key ≡ 32

-- what is said of every call with the command cmd and such an interface, fresh bytes and output, on the load's card in any state
abbrev pub EachCall : Load → List ℕ → (Card → Call → Type 0) → Type 0
EachCall l cmd q =
    (s : Session) (u : Tries) (i : ℕ) (fresh : List ℕ) (room : ℕ) → TypedSession s → Lent l.given.key_length i fresh room →
    q (in_state l s u) (record { interface = i; command = cmd; fresh = fresh; room = room })

-- "set k, n comparisons", of a call x on the card c: the handle is that of the load's set k; the session is open with that set, by T-07 its FAKey too, and
-- the first L fresh bytes as RND1, and the card is otherwise the load's; the block is 00 02, the pad bytes, 00, and STR1 = KeySetID, DivData, RND1, RND1
pub record Answered (l : Load) (k n : ℕ) (c : Card) (x : Call) : Type 0 where
  pub number : (outcome_of c x).answer.number ≡ 0
  pub status : (outcome_of c x).answer.status ≡ 0x9000
  pub comparisons : (outcome_of c x).answer.comparisons ≡ n
  pub place : ℕ
  pub gave : Gave l place k
  pub handle : (outcome_of c x).answer.handle ≡ (get_or l.sets place past_set).handle
  pub card : (outcome_of c x).card ≡ in_state l (opened_with (set_slot (get_or l.sets place past_set)) (part x.fresh 0 l.given.key_length)) c.tries
  pub block :
      bytes_of c x ≡
      0 ∷ 2 ∷ (drop (str1_length l.given.key_length) x.fresh ++ (0 ∷ k / 256 ∷ k % 256 ∷ (l.given.div_data ++ (part x.fresh 0 l.given.key_length ++ part x.fresh 0 l.given.key_length))))

-- "refused, n": the handle is the shill handle, there is no session, and F, as many of the first fresh bytes, stands for STR1
pub record Refused (l : Load) (n : ℕ) (c : Card) (x : Call) : Type 0 where
  pub number : (outcome_of c x).answer.number ≡ 0
  pub status : (outcome_of c x).answer.status ≡ 0x9000
  pub comparisons : (outcome_of c x).answer.comparisons ≡ n
  pub handle : (outcome_of c x).answer.handle ≡ l.given.shill_handle
  pub card : (outcome_of c x).card ≡ in_state l no_session c.tries
  pub block : bytes_of c x ≡ 0 ∷ 2 ∷ (drop (str1_length l.given.key_length) x.fresh ++ (0 ∷ part x.fresh 0 (str1_length l.given.key_length)))

-- "Final: 16 comparisons, n decipherments, B + 1 encipherments, 3 expansions, 1 hash block. Answer length: .. 16B. Status: 9000", with B 3. T-04: "One
-- encipherment more is made for L over 16", and the hash has "its own block count, 2 for L = 32 and else 1"
pub record FinalCounts (n e h : ℕ) (c : Card) (x : Call) : Type 0 where
  pub number : (outcome_of c x).answer.number ≡ 0
  pub status : (outcome_of c x).answer.status ≡ 0x9000
  pub comparisons : (outcome_of c x).answer.comparisons ≡ 16
  pub decipherments : (outcome_of c x).answer.decipherments ≡ n
  pub encipherments : (outcome_of c x).answer.encipherments ≡ e
  pub expansions : (outcome_of c x).answer.expansions ≡ 3
  pub hash_blocks : (outcome_of c x).answer.hash_blocks ≡ h
  pub size : (outcome_of c x).answer.length ≡ 48

-- "final, .. B 3: refused, n .., 4 encipherments": the call is not accepted, "the first 16B fresh bytes go by CBC under the shill key, unpadded", and "the
-- session closes either way". T-06: it is counted, on the call's interface
pub record FinalRefused (l : Load) (n e h : ℕ) (c : Card) (x : Call) : Type 0 where
  pub counts : FinalCounts n e h c x
  pub handle : (outcome_of c x).answer.handle ≡ 0
  pub card : (outcome_of c x).card ≡ in_state l no_session (tries_after x.interface true c.tries)
  pub refused : accepted c x ≡ false
  pub reply : bytes_of c x ≡ encrypted (aes_under (keys.bytes_of l.given.shill_key)) zeros 3 (part x.fresh 0 48)

-- what is said of every final command with lc data bytes, whatever they are, on a card with keys of k bytes and B 3
abbrev pub EachFinal : ℕ → ℕ → (Load → Card → Call → Type 0) → Type 0
EachFinal k lc q =
    Of (λ l. (l.given.key_length ≡ k) × ((card_of l).reply_size ≡ 3)) (λ l. (d : List ℕ) → length d ≡ lc → EachCall l (framed 0x86 d) (q l))

-- that it is refused
abbrev pub Final : ℕ → ℕ → ℕ → ℕ → ℕ → Type 0
Final k lc n e h = EachFinal k lc (λ l. FinalRefused l n e h)

-- and its counts alone, accepted or refused
abbrev pub Counts : ℕ → ℕ → ℕ → ℕ → ℕ → Type 0
Counts k lc n e h = EachFinal k lc (λ l. FinalCounts n e h)

-- of a final command with the data d on a card with keys of k bytes, whose text is what unpadding gives of "the first 16n bytes": with fewer than t bytes
-- it is not accepted. With t it is where "a session is open, Lc is a multiple of 16, .. its last 16", by T-04 L, "equal KeysHash, and the mode is
-- held" (its slot is below sixteen)
pub record LeastText (k t : ℕ) (d : List ℕ) (c : Card) (x : Call) : Type 0 where
  pub fewer : (n : ℕ) → unpadded (deciphered_text c d) ≡ Some n → n < t → accepted c x ≡ false
  pub enough :
      unpadded (deciphered_text c d) ≡ Some t → c.session.opened ≡ true → length d % 16 ≡ 0 → part (deciphered_text c d) (t - k) k ≡ card_keys_hash c d → mode_of c d < 16 →
      accepted c x ≡ true

-- T-04: "the shortest text has 2 + 2L bytes", t for L = k
abbrev pub Shortest : ℕ → ℕ → Type 0
Shortest k t = Of (λ l. l.given.key_length ≡ k) (λ l. (d : List ℕ) → EachCall l (framed 0x86 d) (LeastText k t d))

-- its mode number i has a record of n bytes
pub record Records (l : Load) (i n : ℕ) : Type 0 where
  pub within : i < l.given.mode_count
  pub size : (get_or l.given.modes i past_mode).len ≡ n

-- and none has more
pub record Longest (l : Load) (n : ℕ) : Type 0 where
  pub at : ℕ
  pub has : Records l at n
  pub others : (i m : ℕ) → Records l i m → m ≤ n

-- "record of n: B b", by T-01 of the longest record
abbrev pub Size : ℕ → ℕ → Type 0
Size n b = Of (λ l. Longest l n) (λ l. (card_of l).reply_size ≡ b)

-- the lengths of its records
abbrev pub lengths : Load → List ℕ
lengths l = map (λ (m : Mode). m.len) (take l.given.mode_count l.given.modes)

-- T-01: B is b, and mode number i is answered with a body of n bytes: so every final command that is accepted behind any list and names that mode,
-- by the body, DivData and padding under KeysHash by CBC
pub record Replies (l : Load) (i b n : ℕ) (body : List ℕ) : Type 0 where
  pub size : (card_of l).reply_size ≡ b
  pub long : length body ≡ n
  pub answered :
      (ps : List Place) (x : Call) → is_initial x ≡ false → accepted (card_after (card_of l) ps) x ≡ true →
      op_mode (text_of (card_after (card_of l) ps) (data_of x.command)) ≡ (get_or l.given.modes i past_mode).id →
      bytes_of (card_after (card_of l) ps) x ≡
      encrypted (aes_under (card_keys_hash (card_after (card_of l) ps) (data_of x.command))) zeros b (padded (body ++ l.given.div_data))

-- what is said of Seal at L = l, for every payload of p bytes and output, of the output, what Seal hands back, and the output behind it
abbrev pub EachSeal : ℕ → ℕ → (List ℕ → Sealed → List ℕ → Type 0) → Type 0
EachSeal l p q =
    (fa : Value) (div : List ℕ) (rnd1 rnd2 : Value) (mode : OpModeId) (payload out : List ℕ) → fa.length ≡ l → rnd1.length ≡ l → rnd2.length ≡ l → length payload ≡ p →
    q out (sealed_of l fa div rnd1 rnd2 mode payload (length out)) (seal_output l fa div rnd1 rnd2 mode payload out)

-- "payload p: Lc lc", where the output has room for the command
pub record SealedWith (lc : ℕ) (r : Sealed) (out : List ℕ) : Type 0 where
  pub number : r.number ≡ 0
  pub total : r.length ≡ lc + 6
  pub lc-byte : get_or out 4 0 ≡ lc

abbrev pub Seals : ℕ → ℕ → ℕ → Type 0
Seals l p lc = EachSeal l p (λ out r written. lc + 6 ≤ length out → SealedWith lc r written)

-- "Seal: 16 payload over" the limit; "a decline writes nothing", and "it hands back its number alone"
abbrev pub SealDeclines : ℕ → ℕ → Type 0
SealDeclines l p = EachSeal l p (λ out r written. (r ≡ seal_declined 16) × (written ≡ out))

-- a last block behind any whole blocks s: "good", and then the text is s, or "bad"
abbrev pub Good : List ℕ → Type 0
Good last = (s : List ℕ) → length s % 16 ≡ 0 → (rightly (s ++ last) ≡ true) × (unpadded (s ++ last) ≡ Some (length s))

abbrev pub Bad : List ℕ → Type 0
Bad last = (s : List ℕ) → length s % 16 ≡ 0 → (rightly (s ++ last) ≡ false) × (unpadded (s ++ last) ≡ None)

unfoldable pub edges : List (Type 0)
edges =
    -- "30 04 04 02 00 01, set 1 held: set 1, 8 comparisons"
    Of (λ l. (i : ℕ) × Gave l i 1) (λ l. EachCall l (framed 0x87 (0x30 ∷ 4 ∷ 4 ∷ 2 ∷ 0 ∷ 1 ∷ [])) (Answered l 1 8)) ∷
    -- "30 08 04 02 00 05 04 02 00 02, slots 2 then 5: set 5, 16"
    Of (λ l. Gave l 0 2 × Gave l 1 5) (λ l. EachCall l (framed 0x87 (0x30 ∷ 8 ∷ 4 ∷ 2 ∷ 0 ∷ 5 ∷ 4 ∷ 2 ∷ 0 ∷ 2 ∷ [])) (Answered l 5 16)) ∷
    -- "30 00: refused, 0"
    OfAll (λ l. EachCall l (framed 0x87 (0x30 ∷ 0 ∷ [])) (Refused l 0)) ∷
    -- "30 04 04 02 00 01 00: refused, 8"
    OfAll (λ l. EachCall l (framed 0x87 (0x30 ∷ 4 ∷ 4 ∷ 2 ∷ 0 ∷ 1 ∷ 0 ∷ [])) (Refused l 8)) ∷
    -- "30 03 04 01 01: refused, 8"
    OfAll (λ l. EachCall l (framed 0x87 (0x30 ∷ 3 ∷ 4 ∷ 1 ∷ 1 ∷ [])) (Refused l 8)) ∷
    -- "30 81 04 04 02 00 01: set 1, 8"
    Of (λ l. (i : ℕ) × Gave l i 1) (λ l. EachCall l (framed 0x87 (0x30 ∷ 0x81 ∷ 4 ∷ 4 ∷ 2 ∷ 0 ∷ 1 ∷ [])) (Answered l 1 8)) ∷
    -- "record of 15: B 2; of 16: B 3; of 64: B 6"
    Size 15 2 ∷
    Size 16 3 ∷
    Size 64 6 ∷
    -- "payload 13: Lc 48; 14: 64; 205: 240"
    Seals 16 13 48 ∷
    Seals 16 14 64 ∷
    Seals 16 205 240 ∷
    -- "last block 80 and fifteen 00: good; sixteen 00: bad"
    Good (0x80 ∷ replicate 15 0) ∷
    Bad (replicate 16 0) ∷
    -- "final, Lc 255, B 3: refused, n 15, 4 encipherments; Lc 1: n 0"
    Final 16 255 15 4 1 ∷
    Final 16 1 0 4 1 ∷
    -- T-01: records of 4 and 16 bytes on one card give B 3, and the body of the first is its 4 bytes and 12 zero bytes
    Of (λ l. lengths l ≡ 4 ∷ 16 ∷ []) (λ l. Replies l 0 3 16 (record_given l 0 ++ replicate 12 0)) ∷
    -- records of 15 and 64: B 6, a body of 64
    Of (λ l. lengths l ≡ 15 ∷ 64 ∷ []) (λ l. Replies l 0 6 64 (record_given l 0 ++ replicate 49 0) × Replies l 1 6 64 (record_given l 1)) ∷
    -- one record of 4 alone: B 2, no filler
    Of (λ l. lengths l ≡ 4 ∷ []) (λ l. Replies l 0 2 4 (record_given l 0)) ∷
    -- T-02: 30 82 00 08 and two entries, slots 2 then 5: set 5, 24
    Of (λ l. Gave l 0 2 × Gave l 1 5) (λ l. EachCall l (framed 0x87 (0x30 ∷ 0x82 ∷ 0 ∷ 8 ∷ 4 ∷ 2 ∷ 0 ∷ 5 ∷ 4 ∷ 2 ∷ 0 ∷ 2 ∷ [])) (Answered l 5 24)) ∷
    -- 30 80 04 02 00 01 00 00, set 1 held: set 1, 16
    Of (λ l. (i : ℕ) × Gave l i 1) (λ l. EachCall l (framed 0x87 (0x30 ∷ 0x80 ∷ 4 ∷ 2 ∷ 0 ∷ 1 ∷ 0 ∷ 0 ∷ [])) (Answered l 1 16)) ∷
    -- 30 80 00 00: refused, 8
    OfAll (λ l. EachCall l (framed 0x87 (0x30 ∷ 0x80 ∷ 0 ∷ 0 ∷ [])) (Refused l 8)) ∷
    -- 30 84 00 00 00 04 04 02 00 01, set 1 held: set 1, 16
    Of (λ l. (i : ℕ) × Gave l i 1) (λ l. EachCall l (framed 0x87 (0x30 ∷ 0x84 ∷ 0 ∷ 0 ∷ 0 ∷ 4 ∷ 4 ∷ 2 ∷ 0 ∷ 1 ∷ [])) (Answered l 1 16)) ∷
    -- 30 05 04 81 02 00 01, set 1 held: set 1, 8
    Of (λ l. (i : ℕ) × Gave l i 1) (λ l. EachCall l (framed 0x87 (0x30 ∷ 5 ∷ 4 ∷ 0x81 ∷ 2 ∷ 0 ∷ 1 ∷ [])) (Answered l 1 8)) ∷
    -- 30 FF and any bytes: refused
    OfAll (λ l. (d : List ℕ) → EachCall l (framed 0x87 (0x30 ∷ 0xFF ∷ d)) (Refused l (8 * ((length d + 2) / 4)))) ∷
    -- T-04: "Payload limits are 205, 189 and 173"
    Seals 24 189 240 ∷
    Seals 32 173 240 ∷
    SealDeclines 16 206 ∷
    SealDeclines 24 190 ∷
    SealDeclines 32 174 ∷
    -- "the shortest text has 2 + 2L bytes": the least that is accepted, and what is sealed without payload
    Shortest 16 34 ∷
    Shortest 24 50 ∷
    Shortest 32 66 ∷
    Seals 16 0 48 ∷
    Seals 24 0 64 ∷
    Seals 32 0 80 ∷
    -- "One encipherment more is made for L over 16", "its own block count, 2 for L = 32 and else 1": final, B 3, Lc 255 and 1: refused
    Final 24 255 15 5 1 ∷
    Final 24 1 0 5 1 ∷
    Final 32 255 15 5 2 ∷
    Final 32 1 0 5 2 ∷
    -- and whatever the verdict, of the shortest and the longest command that a reader seals
    Counts 16 48 3 4 1 ∷
    Counts 16 240 15 4 1 ∷
    Counts 24 64 4 5 1 ∷
    Counts 24 240 15 5 1 ∷
    Counts 32 80 5 5 2 ∷
    Counts 32 240 15 5 2 ∷
    []

-- every statement of a list holds
infixr 20 ◌and◌
pub data All : List (Type 0) → Type 1 where
  end : All []
  ◌and◌ : {p : Type 0} {ps : List (Type 0)} → p → All ps → All (p ∷ ps)
