-- What a successful load made: its card in terms of what was given, and what every list of calls keeps true of it. Assumes nothing.
use Rattle.std.specs.Prelude.{◌≡◌, refl, true, false, ◌||◌, ℕ, ◌+◌, ◌-◌, ◌<◌, ◌≤◌, eqb, ltb, length, take, drop, replicate}
use Rattle.std.proofs.Math.Path.{sym, ap}
use Rattle.std.proofs.Common.{ap₂, ◌∙◌, le_refl, arith, length-drop, get_or-take, length-take-le, ltb-false}
use mathlib.Core.List.{List}
use Rattle.std.proofs.Math.ListN.{get_or}
use Rattle.std.proofs.Math.Seq.{take-length}
use Rattle.std.proofs.lemmas.List.{take-append-le, drop-append-le}
use Rattle.octets.specs.Bytes.{Bytes}
use Rattle.octets.specs.ByteLists.{append-bytes, zeros-bytes, part_bytes}
use Rattle.octets.specs.Lists.{part, length_part}
use Rattle.key_expansion.specs.KeyLength.{is_key_length}
use Rattle.plaid_types.specs.Keys.{key_length_of, wide, held, bytes_of}
use Rattle.plaid_types.specs.declared.Value.{Value}
use Rattle.plaid_types.specs.declared.KeySet.{KeySet}
use Rattle.plaid_types.specs.declared.KeySetSlot.{KeySetSlot}
use Rattle.plaid_types.specs.declared.Mode.{Mode}
use Rattle.plaid_types.specs.Cards.{with_session, with_tries}
use Rattle.plaid_types.specs.declared.Session.{Session}
use Rattle.plaid_types.specs.declared.Tries.{Tries}
use Rattle.plaid_types.specs.declared.Card.{Card}
use Rattle.load.specs.Load.{past_set, past_mode, refusal, bad_record, largest_size, filled, set_slot, table_of, mode_slot, loaded_card}
use Rattle.load.proofs.Laws.{neither, some-none, SetsRight, Accepted, accepted, slot_at, set_at, mode_at, set-held, mode-held, set_given, mode-given, IsLoaded, is-loaded, load-made, load-number, stocked-length, key-kept}
use Rattle.load.specs.declared.Loaded.{Loaded}
use Rattle.card.specs.Demand3.{Sound}
use Rattle.plaid.specs.Interface.{load_of}
use Rattle.claims.specs.Load.{Load, TypedValue, card_of, record_given}

-- a part of the area that lies in what was given
part_filled : (n : ℕ) (area : List ℕ) (s k : ℕ) → s + k ≤ length area → part (filled n 0 area) s k ≡ part area s k
unfolding part filled
part_filled n area s k h =
    let z : List ℕ = replicate (n - length area) 0 in
    ap (take k) (drop-append-le s area z (omega arith)) ∙ take-append-le k (drop s area) z (omega (arith, length-drop s area))

filled-bytes : (n : ℕ) (area : List ℕ) → Bytes area → Bytes (filled n 0 area)
unfolding filled
filled-bytes n area b = append-bytes area (replicate (n - length area) 0) b (zeros-bytes (n - length area))

-- the bytes of a key, RND or KeysHash
pub value-byte : (v : Value) → TypedValue v → Bytes (bytes_of v)
unfolding held
value-byte v t = part_bytes v.bytes 0 v.length t.byte

module _ (l : Load) where
  -- the modes that are counted
  abbrev modes : List Mode
  modes = take l.given.mode_count l.given.modes

  abbrev made : Card
  made = loaded_card l.given.key_length l.sets modes l.area l.given.div_data l.given.shill_key l.given.shill_handle

  zero-refusal : refusal l.given.key_length l.sets (length l.sets) l.given.modes l.given.mode_count (length l.area) l.given.shill_key l.given.shill_handle ≡ 0
  unfolding load_of
  zero-refusal =
      sym (load-number l.given.key_length l.sets (length l.sets) l.given.modes l.given.mode_count l.area l.given.div_data l.given.shill_key l.given.shill_handle)
      ∙ l.success

  shown : Accepted l.given.key_length l.sets (length l.sets) l.given.modes l.given.mode_count (length l.area) l.given.shill_key l.given.shill_handle
  shown = accepted l.given.key_length l.sets (length l.sets) l.given.modes l.given.mode_count (length l.area) l.given.shill_key l.given.shill_handle zero-refusal

  card-is : card_of l ≡ made
  unfolding load_of
  card-is =
      ap (λ (r : Loaded). r.card)
      (load-made l.given.key_length l.sets (length l.sets) l.given.modes l.given.mode_count l.area l.given.div_data l.given.shill_key l.given.shill_handle zero-refusal)
      ∙ ap (λ (s : List KeySet). loaded_card l.given.key_length s modes l.area l.given.div_data l.given.shill_key l.given.shill_handle) (take-length l.sets)

  -- its table
  pub table-given : (card_of l).sets ≡ table_of l.sets
  unfolding loaded_card
  table-given = ap (λ (c : Card). c.sets) card-is

  -- what its key sets have shown
  pub sets-shown : SetsRight l.given.key_length l.sets (length l.sets) false l.given.shill_handle
  sets-shown =
      let k = shown.of-sets in
      record { sets-some = k.sets-some; sets-most = k.sets-most; keys-right = k.keys-right; other-right = refl; ids-once = k.ids-once; handles-other = k.handles-other }

  -- the slot of a set that was given, and that there is no other
  pub set-slot : (i : ℕ) → i < length l.sets → set_at (card_of l) i ≡ set_slot (get_or l.sets i past_set)
  set-slot i h = ap (λ (t : List KeySetSlot). slot_at t i) table-given ∙ set-held l.sets i h

  pub slot-given : (i : ℕ) → (set_at (card_of l) i).held ≡ true → i < length l.sets
  slot-given i e = set_given l.sets i (sym (ap (λ (t : List KeySetSlot). (slot_at t i).held) table-given) ∙ e)

  pub sets-most : length l.sets ≤ 8
  sets-most = shown.of-sets.sets-most

  -- a mode that is held was counted
  pub mode-counted : (i : ℕ) → (mode_at (card_of l) i).held ≡ true → i < l.given.mode_count
  mode-counted i e =
      omega (
        arith,
        mode-given l.given.key_length l.sets modes l.area l.given.div_data l.given.shill_key l.given.shill_handle i (sym (ap (λ (c : Card). (mode_at c i).held) card-is) ∙ e),
        length-take-le l.given.mode_count l.given.modes (omega (arith, l.typed.modes, shown.modes-most)),
      )

  -- the mode of a place below the count, and its record
  module _ (i : ℕ) (h : i < l.given.mode_count) where
    modes-long : length modes ≡ l.given.mode_count
    modes-long = length-take-le l.given.mode_count l.given.modes (omega (arith, l.typed.modes, shown.modes-most))

    mode-at : get_or modes i past_mode ≡ get_or l.given.modes i past_mode
    mode-at = get_or-take l.given.mode_count l.given.modes i past_mode h

    pub mode-slot : mode_at (card_of l) i ≡ mode_slot (get_or l.given.modes i past_mode)
    mode-slot =
        ap (λ (c : Card). mode_at c i) card-is
        ∙ mode-held l.given.key_length l.sets modes l.area l.given.div_data l.given.shill_key l.given.shill_handle i (omega (arith, modes-long))
        ∙ ap mode_slot mode-at

    pub mode-below : i < 16
    mode-below = omega (arith, shown.modes-most)

    record-good : bad_record (length l.area) (get_or l.given.modes i past_mode) ≡ false
    record-good =
        ap (bad_record (length l.area)) (sym mode-at)
        ∙ some-none (bad_record (length l.area)) modes past_mode i shown.records-good (omega (arith, modes-long))

    inside : (get_or l.given.modes i past_mode).start + (get_or l.given.modes i past_mode).len ≤ length l.area
    inside =
        let m : Mode = get_or l.given.modes i past_mode in
        let x = neither (eqb m.len 0) (ltb 64 m.len || ltb (length l.area) (m.start + m.len)) record-good in
        let y = neither (ltb 64 m.len) (ltb (length l.area) (m.start + m.len)) x.1 in
        ltb-false (length l.area) (m.start + m.len) y.1

    pub record-long : length (record_given l i) ≡ (get_or l.given.modes i past_mode).len
    record-long = length_part l.area (get_or l.given.modes i past_mode).start (get_or l.given.modes i past_mode).len inside

    -- it is a part of the area that was given
    pub record-given : part (card_of l).area (get_or l.given.modes i past_mode).start (get_or l.given.modes i past_mode).len ≡ record_given l i
    unfolding loaded_card
    record-given =
        let m : Mode = get_or l.given.modes i past_mode in
        ap (λ (c : Card). part c.area m.start m.len) card-is ∙ part_filled 1024 l.area m.start m.len inside

  pub is-a-load : IsLoaded (card_of l)
  is-a-load =
      rw card-is
      (rw (take-length l.sets) at
      (is-loaded l.given.key_length l.sets (length l.sets) l.given.modes l.given.mode_count l.area l.given.div_data l.given.shill_key l.given.shill_handle zero-refusal
      (le_refl (length l.sets)) l.typed.modes l.typed.div.long))

  pub sound : Sound (card_of l)
  sound =
      let k = is-a-load in
      record {
        sets = k.stocked.sets-long;
        keys = k.stocked.fa-long;
        modes = k.stocked.modes-long;
        div = k.stocked.div-long;
        stored =
            record {
              shill = k.stocked.key-long;
              rnd1 = ap (λ (s : Session). length s.rnd1) k.no-session;
              key = ap (λ (s : Session). length s.fa_key) k.no-session;
            };
        size = k.stocked.size-most;
      }

  -- and in any state
  pub sound-state : (s : Session) (t : Tries) → length s.rnd1 ≡ 32 → length s.fa_key ≡ 32 → Sound (with_tries (with_session (card_of l) s) t)
  sound-state s t r f =
      let k = sound in
      record { sets = k.sets; keys = k.keys; modes = k.modes; div = k.div; stored = record { shill = k.stored.shill; rnd1 = r; key = f }; size = k.size }

  -- T-01: "B becomes the largest that any record needs"
  pub size-given : (card_of l).reply_size ≡ largest_size (take l.given.mode_count l.given.modes)
  unfolding loaded_card
  size-given = ap (λ (c : Card). c.reply_size) card-is

  pub handle-given : (card_of l).shill_handle ≡ l.given.shill_handle
  unfolding loaded_card
  handle-given = ap (λ (c : Card). c.shill_handle) card-is

  -- T-04: "A card and its reader have one key length L": the load's
  pub length-given : (card_of l).key_length ≡ l.given.key_length
  unfolding loaded_card
  length-given = ap (λ (c : Card). c.key_length) card-is

  pub length_three : is_key_length l.given.key_length ≡ true
  length_three = shown.length-one

  pub length-is : key_length_of (card_of l) ≡ l.given.key_length
  length-is = stocked-length (card_of l) is-a-load.stocked ∙ length-given

  pub key-given : (card_of l).shill_key ≡ wide (bytes_of l.given.shill_key)
  unfolding loaded_card
  key-given = ap (λ (c : Card). c.shill_key) card-is

  -- the shill key has L bytes, which the card holds
  pub shill-held : held (key_length_of (card_of l)) (card_of l).shill_key ≡ bytes_of l.given.shill_key
  shill-held =
      ap₂ held length-is key-given ∙ key-kept l.given.key_length l.given.shill_key length_three l.typed.key.long shown.key_right

  pub div-given : (card_of l).div_data ≡ l.given.div_data
  unfolding loaded_card
  div-given = ap (λ (c : Card). c.div_data) card-is

  pub area-bytes : Bytes (card_of l).area
  unfolding loaded_card
  area-bytes i = rw card-is (filled-bytes 1024 l.area l.typed.area-bytes i)
