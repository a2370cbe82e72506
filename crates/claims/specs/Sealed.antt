-- The reverse of "what one seals the other opens", from the load on: a final command of bytes that the card accepts is Seal's, byte for byte, for a set
-- of the table at the session's initial command and the session's RND1. Assumes nothing.
use Rattle.std.specs.Prelude.{◌≡◌, refl, Bool, true, false, ◌||◌, eqb, get_or}
use Rattle.std.proofs.Math.Path.{sym, ap, ap₂, subst}
use Rattle.std.proofs.Common.{◌∙◌, true≢false, arith, eqb-true}
use mathlib.Core.List.{List, ◌∷◌, ◌++◌}
use Prim.Native.Nat.{ℕ, ◌<◌, ◌≤◌}
use Rattle.std.proofs.Math.ListN.{length}
use Rattle.octets.specs.Bytes.{Bytes}
use Rattle.frame.specs.Frame.{frame_of, ins_of, initial_ins, final_ins, data_of}
use Rattle.frame.specs.Laws.{Passed, passed, data-long, frame_byte}
use Rattle.plaid_types.specs.Keys as keys
use Rattle.plaid_types.specs.Keys.{key_length_of, bytes_of}
use Rattle.plaid_types.specs.declared.KeySetSlot.{KeySetSlot}
use Rattle.plaid_types.specs.declared.Session.{Session}
use Rattle.plaid_types.specs.declared.OpModeId.{OpModeId}
use Rattle.plaid_types.specs.declared.Card.{Card}
use Rattle.load.specs.Load.{past_set, set_slot, table_of}
use Rattle.load.proofs.Laws.{slot_at, set_at, set-held, set_given}
use Rattle.initial.specs.Initial.{slot_of}
use Rattle.final_command.specs.Final.{fa_key_of, rnd1_of, accepts_final}
use Rattle.card.specs.Command.{verdict_on}
use Rattle.card.specs.Lists.{Call, Place, command, load_after, is_initial, accepted}
use Rattle.reader_seal.specs.Seal.{payload_most, seal_command}
use Rattle.session_final.specs.Accepts.{six-conditions}
use Rattle.session_final.specs.Converse.{mode_in, rnd2_in, payload_in, accepted-sealed, accepted-command, data-bytes}
use Rattle.session_initial.specs.Opens.{accepted-holds}
use Rattle.session.specs.Kept.{OpenedBy, load-stocked}
use Rattle.claims.specs.Load.{Load, TypedPlaces, card_of, sets_at}
use Rattle.claims.specs.Loaded.{value-byte, div-given, length-is, is-a-load}
use Rattle.claims.specs.Sets.{typed-front, table_at, fa-key-held, sets-typed}
use Rattle.claims.specs.Kept.{left, Kept, kept}

-- the command of the call x, on the card that the load l and the list ps left, is Seal's: for the FAKey of the set that the session has, by T-07 of the
-- table at the session's initial command, behind the places `past`; the load's DivData, the session's RND1, and some RND2, mode and payload. T-04:
-- "Payload limits are 205, 189 and 173"
pub record IsSeals (l : Load) (ps : List Place) (x : Call) : Type 0 where
  pub past : List Place
  pub opener : Call
  pub rest : List Place
  pub is : ps ≡ past ++ (command opener ∷ rest)
  pub set : ℕ
  pub given : set < length (sets_at l past)
  pub session-set : (get_or (sets_at l past) set past_set).id ≡ (left l ps).session.id
  pub rnd2 : List ℕ
  pub mode : OpModeId
  pub payload : List ℕ
  pub payload-most : length payload ≤ payload_most l.given.key_length
  pub sealed : x.command ≡ seal_command l.given.key_length (bytes_of (get_or (sets_at l past) set past_set).fa_key) l.given.div_data (keys.held l.given.key_length (left l ps).session.rnd1) rnd2 mode payload

module _ (l : Load) (ps : List Place) (typed : TypedPlaces ps) (x : Call) (bytes : Bytes x.command) (final : is_initial x ≡ false) (goes : eqb (verdict_on x.interface (key_length_of (left l ps)) x.command x.fresh x.room).status 0x9000 ≡ true)
    (e : accepts_final (left l ps) (data_of x.command) ≡ true) where
  kp : Kept l ps
  kp = kept l ps

  open-so : (left l ps).session.opened ≡ true
  open-so = (six-conditions (left l ps) (data_of x.command) e).in-session

  -- the session's initial command, and the slot that it found
  by : OpenedBy (card_of l) ps (left l ps).session
  by = kp.opened open-so

  there : Card
  there = load_after (card_of l) by.past

  at : ℕ
  at = slot_of there (data_of by.opener.command)

  slot_is : set_at there at ≡ slot_at (table_of (sets_at l by.past)) at
  unfolding there
  slot_is = ap (λ (y : Card). set_at y at) (table_at l by.past)

  within : at < length (sets_at l by.past)
  unfolding there at
  within =
      set_given (sets_at l by.past) at
      (sym (ap (λ (s : KeySetSlot). s.held) slot_is) ∙ (accepted-holds there (load-stocked (card_of l) (is-a-load l).stocked by.past) (data_of by.opener.command) by.accepts).kept)

  set_is : set_at there at ≡ set_slot (get_or (sets_at l by.past) at past_set)
  set_is = slot_is ∙ set-held (sets_at l by.past) at within

  typed-past : TypedPlaces by.past
  typed-past = typed-front by.past (command by.opener ∷ by.rest) (subst (λ (q : List Place). TypedPlaces q) by.is typed)

  length-so : key_length_of (left l ps) ≡ l.given.key_length
  length-so = ap key_length_of kp.same ∙ length-is l

  key-is : fa_key_of (left l ps) ≡ bytes_of (get_or (sets_at l by.past) at past_set).fa_key
  unfolding fa_key_of there at
  key-is =
      rw open-so
      (ap₂ (λ (n : ℕ) (s : Session). keys.held n s.fa_key) length-so by.session
      ∙ ap (λ (s : KeySetSlot). keys.held l.given.key_length s.fa_key) slot_is
      ∙ fa-key-held l by.past at within typed-past)

  rnd1-is : rnd1_of (left l ps) ≡ keys.held l.given.key_length (left l ps).session.rnd1
  unfolding rnd1_of
  rnd1-is = rw open-so (ap (λ (n : ℕ). keys.held n (left l ps).session.rnd1) length-so)

  div_is : (left l ps).div_data ≡ l.given.div_data
  div_is = ap (λ (y : Card). y.div_data) kp.same ∙ div-given l

  past : Passed x.interface (key_length_of (left l ps)) (length x.command) (frame_of x.command) x.fresh x.room
  past = passed x.interface (key_length_of (left l ps)) (length x.command) (frame_of x.command) x.fresh x.room (eqb-true _ _ goes)

  final-by : (s t : Bool) → eqb (ins_of (frame_of x.command)) final_ins ≡ t → s ≡ false → (s || t) ≡ true → t ≡ true
  final-by true t p q r = absurd (true≢false q)
  final-by false t p q r = r

  is-final : ins_of (frame_of x.command) ≡ final_ins
  is-final =
      eqb-true (ins_of (frame_of x.command)) final_ins
      (final-by (eqb (ins_of (frame_of x.command)) initial_ins) (eqb (ins_of (frame_of x.command)) final_ins) refl final past.frame.known)

  key-bytes : Bytes (fa_key_of (left l ps))
  key-bytes = subst (λ (s : List ℕ). Bytes s) (sym key-is) (value-byte (get_or (sets_at l by.past) at past_set).fa_key (sets-typed l by.past typed-past at within))

  div-bytes : Bytes (left l ps).div_data
  div-bytes = subst (λ (s : List ℕ). Bytes s) (sym div_is) l.typed.div.byte

  most : length (data_of x.command) < 256
  most = omega (arith, data-long x.command past.frame, frame_byte x.command 4 (omega arith), bytes 4)

  is-seals : IsSeals l ps x
  unfolding there at
  is-seals =
      let k : Card = left l ps in
      let t : List ℕ = data_of x.command in
      record {
        past = by.past;
        opener = by.opener;
        rest = by.rest;
        is = by.is;
        set = at;
        given = within;
        session-set = sym (ap (λ (s : KeySetSlot). s.id) set_is) ∙ sym (ap (λ (s : Session). s.id) by.session);
        rnd2 = rnd2_in k t;
        mode = mode_in k t;
        payload = payload_in k t;
        payload-most =
            subst (λ (n : ℕ). length (payload_in k t) ≤ payload_most n) length-so
            (accepted-sealed k t kp.stocked key-bytes div-bytes (data-bytes x.command bytes) most e).payload-most;
        sealed =
            accepted-command k x.command kp.stocked key-bytes div-bytes bytes past.status is-final e
            ∙ ap₂ (λ (f v : List ℕ). seal_command (key_length_of k) f v (rnd1_of k) (rnd2_in k t) (mode_in k t) (payload_in k t)) key-is div_is
            ∙ ap₂ (λ (n : ℕ) (r : List ℕ). seal_command n (bytes_of (get_or (sets_at l by.past) at past_set).fa_key) l.given.div_data r (rnd2_in k t) (mode_in k t) (payload_in k t)) length-so rnd1-is;
      }

-- THE REVERSE: a final command of bytes that is accepted, on the card that any load and any list left
pub accepted-is-seals : (l : Load) (ps : List Place) → TypedPlaces ps → (x : Call) → Bytes x.command → is_initial x ≡ false → accepted (left l ps) x ≡ true → IsSeals l ps x
unfolding accepted
accepted-is-seals l ps u x h f a = by (eqb (verdict_on x.interface (key_length_of (left l ps)) x.command x.fresh x.room).status 0x9000) refl a
  where
    by : (t : Bool) → eqb (verdict_on x.interface (key_length_of (left l ps)) x.command x.fresh x.room).status 0x9000 ≡ t → accepted (left l ps) x ≡ true → IsSeals l ps x
    by true q z = is-seals l ps u x h f q (rw (q, f) at z)
    by false q z = absurd (true≢false (sym (rw q at z)))
