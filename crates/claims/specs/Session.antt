-- THE SESSION PROMISE of demand 2, one claim: from a successful load and any list of calls and, by T-07, loads of key sets, through List, Open, Seal
-- and Accept as they are exported, to the record that the load was given. `session-promise` of `SessionHolds.antt` is its one theorem. T-07: "the next
-- one uses the new table" is the same claim, with the loads among those before it.
use Rattle.std.specs.Prelude.{◌≡◌, false, List, map, ℕ, ◌<◌, length, get_or}
use Rattle.octets.specs.Bytes.{Bytes}
use Rattle.octets.specs.Lists.{part}
use Rattle.plaid_types.specs.Keys.{bytes_of}
use Rattle.plaid_types.specs.declared.Value.{Value}
use Rattle.plaid_types.specs.declared.KeySet.{KeySet}
use Rattle.plaid_types.specs.declared.KeySetId.{KeySetId}
use Rattle.plaid_types.specs.declared.OpModeId.{OpModeId}
use Rattle.plaid_types.specs.declared.Card.{Card}
use Rattle.plaid_types.specs.declared.Outcome.{Outcome}
use Rattle.load.specs.Load.{past_set, past_mode}
use Rattle.card.specs.Command.{outcome, answer_bytes}
use Rattle.card.specs.Lists.{Place, key_sets, card_after}
use Rattle.reader_list.specs.List.{listed, list_output}
use Rattle.reader_list.specs.declared.Written.{Written}
use Rattle.reader_open.specs.Open.{no_id, opens_as, block_at, opened}
use Rattle.reader_open.specs.declared.Opened.{Opened}
use Rattle.reader_seal.specs.Seal.{sealed_of, seal_output}
use Rattle.reader_seal.specs.declared.Sealed.{Sealed}
use Rattle.reader_accept.specs.Accept.{accepted_of, work_after, record_part}
use Rattle.reader_accept.specs.declared.Accepted.{Accepted}
use Rattle.claims.specs.Load.{Load, TypedValue, TypedPlaces, card_of, sets_at, record_given}

-- a session: what the two ends and their platforms give
pub record Exchange : Type 0 where
  -- the successful load, and the calls and loads of key sets that the card got since, whatever they were
  pub load : Load
  pub before : List Place
  -- T-04: the reader's L, which Open, Seal and Accept get
  pub key_length : ℕ
  -- the reader's KeySetIDs, the first `count`, and the buffer that List gets
  pub ids : List KeySetId
  pub count : ℕ
  pub list_out : List ℕ
  -- interface (T-06), fresh bytes and output size of the initial command's call
  pub interface₁ : ℕ
  pub fresh₁ : List ℕ
  pub room₁ : ℕ
  -- T-07: "A new load of key sets may come between the two commands": those that come, refused or not
  pub between : List (List KeySet)
  -- what the reader's platform decrypted
  pub blocks : List ℕ
  -- the reader's FAKey for the winning set, RND2, mode, payload, and the buffer that Seal gets
  pub fa_key : Value
  pub rnd2 : Value
  pub mode : OpModeId
  pub payload : List ℕ
  pub seal_out : List ℕ
  -- interface, fresh bytes and output size of the final command's call
  pub interface₂ : ℕ
  pub fresh₂ : List ℕ
  pub room₂ : ℕ
  -- the record length and the work buffer that Accept gets
  pub record_length : ℕ
  pub work : List ℕ

module _ (e : Exchange) where
  -- the card before the session
  abbrev pub card : Card
  card = card_after (card_of e.load) e.before

  -- the key sets of its table: "its promise meaning the table at the initial command"
  abbrev pub sets : List KeySet
  sets = sets_at e.load e.before

  -- List, and the command that it wrote
  abbrev pub written : Written
  written = listed e.ids e.count (length e.list_out)

  abbrev pub command₁ : List ℕ
  command₁ = part (list_output e.ids e.count e.list_out) 0 written.length

  -- the card's answer to it
  abbrev pub outcome₁ : Outcome
  outcome₁ = outcome card e.interface₁ command₁ e.fresh₁ e.room₁

  abbrev pub answer₁ : List ℕ
  answer₁ = answer_bytes card e.interface₁ command₁ e.fresh₁ e.room₁

  -- Open
  abbrev pub open₁ : Opened
  open₁ = opened e.key_length e.ids e.count e.blocks

  -- Seal, "with DivData and RND1 as Open gave them", and the command that it wrote
  abbrev pub seal : Sealed
  seal = sealed_of e.key_length e.fa_key open₁.div_data open₁.rnd1 e.rnd2 e.mode e.payload (length e.seal_out)

  abbrev pub command₂ : List ℕ
  command₂ = part (seal_output e.key_length e.fa_key open₁.div_data open₁.rnd1 e.rnd2 e.mode e.payload e.seal_out) 0 seal.length

  -- the card that it reaches: "the card gets no other command in between", but by T-07 loads of key sets
  abbrev pub card₂ : Card
  card₂ = card_after outcome₁.card (map key_sets e.between)

  -- the card's answer to it
  abbrev pub outcome₂ : Outcome
  outcome₂ = outcome card₂ e.interface₂ command₂ e.fresh₂ e.room₂

  abbrev pub answer₂ : List ℕ
  answer₂ = answer_bytes card₂ e.interface₂ command₂ e.fresh₂ e.room₂

  -- Accept, and the part of the work buffer that it returns
  abbrev pub accept : Accepted
  accept = accepted_of e.key_length seal.keys_hash open₁.div_data e.record_length answer₂ (length e.work)

  abbrev pub returned : List ℕ
  returned = record_part (work_after e.key_length seal.keys_hash open₁.div_data e.record_length answer₂ e.work) accept

  -- the conditions of the promise, in the words of document 01, T-01, T-04, T-06 and T-07
  pub record Conditions : Type 0 where
    -- "the first listed set that the card holds": the entry at `place` names the table's set at `set`, and no entry before it names a set of the table
    pub place : ℕ
    pub set : ℕ
    pub place-listed : place < e.count
    pub set-loaded : set < length sets
    pub same_id : (get_or sets set past_set).id ≡ get_or e.ids place no_id
    pub none-earlier : (i j : ℕ) → i < place → j < length sets → (get_or sets j past_set).id ≡ get_or e.ids i no_id → ⊥
    -- it "has equal FAKey at both ends"
    pub same_key : bytes_of (get_or sets set past_set).fa_key ≡ bytes_of e.fa_key
    -- "platform decryption undoes encryption for it"
    pub decrypted : block_at e.blocks place ≡ answer₁
    -- "no earlier entry's block opens"
    pub none-opens : (i : ℕ) → i < place → opens_as e.key_length (get_or e.ids i no_id) (block_at e.blocks i) ≡ false
    -- "the mode is held": it is the load's mode at `at`
    pub at : ℕ
    pub mode-loaded : at < e.load.given.mode_count
    pub same-mode : (get_or e.load.given.modes at past_mode).id ≡ e.mode
    -- T-01: "The reader gets the mode's record length, which a session needs to be the card's"
    pub same_length : e.record_length ≡ (get_or e.load.given.modes at past_mode).len
    -- "none of 8 to 14, 16, 17 and 19 arises": 11 to 13 in List, 8 to 10 in both calls, 14 in Open, 16 and 17 in Seal, 19 in Accept. T-04: "The session
    -- promise also needs that neither 21 nor 22 arises", in Open, Seal and Accept. That the two ends have one L follows: Seal takes a FAKey of the
    -- reader's L, and a load one of the card's. T-06: "26 .. in the session promise too", in both calls
    pub list_done : written.number ≡ 0
    pub first_done : outcome₁.answer.number ≡ 0
    pub open_done : (open₁.number ≡ 14 → ⊥) × (open₁.number ≡ 21 → ⊥)
    pub seal-done : seal.number ≡ 0
    pub second-done : outcome₂.answer.number ≡ 0
    pub accept-done : (accept.number ≡ 19 → ⊥) × (accept.number ≡ 21 → ⊥) × (accept.number ≡ 22 → ⊥)
    -- what the types of the inputs say: an array of sixteen KeySetIDs, numbers of two bytes, values of 32 bytes, and bytes
    pub ids-long : length e.ids ≡ 16
    pub ids-small : (i : ℕ) → (get_or e.ids i no_id).0 < 65536
    pub mode_small : e.mode.0 < 65536
    pub key-typed : TypedValue e.fa_key
    pub rnd2-typed : TypedValue e.rnd2
    pub payload-bytes : Bytes e.payload
    pub before-typed : TypedPlaces e.before

  -- "Then Accept returns that mode's record": the part of the area that the load was given, and none of the payload behind it
  pub record Promised (k : Conditions) : Type 0 where
    pub number : accept.number ≡ 0
    pub record-length : accept.length ≡ (get_or e.load.given.modes k.at past_mode).len
    pub record-returned : returned ≡ record_given e.load k.at

-- the claim
abbrev pub SessionPromise : Type 0
SessionPromise = (e : Exchange) (k : Conditions e) → Promised e k
