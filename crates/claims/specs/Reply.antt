-- Document 01, "Final", with T-01: what a final command is answered, on every card that a successful load and any list left, whoever made the command.
-- Assumes nothing.
use Rattle.std.specs.Prelude.{◌≡◌, refl, Bool, true, false, not, ℕ, ◌*◌, ◌<◌, eqb, length, get_or}
use Rattle.std.proofs.Math.Path.{sym, ap, ap₂}
use Rattle.std.proofs.Common.{◌∙◌, true≢false, eqb-true}
use mathlib.Core.List.{List, ◌++◌}
use Rattle.std.proofs.lemmas.Bool.{not-true}
use Rattle.octets.specs.Lists.{part}
use Rattle.octets.specs.Same.{split-and}
use Rattle.aes.specs.Aes.{aes_under}
use Rattle.padding.specs.Method2.{padded}
use Rattle.cbc.specs.Cbc.{encrypted, zeros}
use Rattle.frame.specs.Frame.{frame_of, data_of}
use Rattle.frame.specs.Laws.{passed}
use Rattle.plaid_types.specs.Keys as keys
use Rattle.plaid_types.specs.Keys.{key_length_of}
use Rattle.plaid_types.specs.declared.OpModeId.{OpModeId}
use Rattle.plaid_types.specs.declared.ModeSlot.{ModeSlot}
use Rattle.plaid_types.specs.declared.Card.{Card}
use Rattle.load.specs.Load.{past_mode, mode_slot}
use Rattle.load.proofs.Laws.{mode_at}
use Rattle.final_command.specs.Final.{text_of, card_keys_hash, op_mode, first_mode, mode_of, accepts_final, body_of, final_reply}
use Rattle.card.specs.Command.{verdict_on, reply_to, answer_bytes}
use Rattle.card.specs.Lists.{Call, Place, bytes_of, is_declined, is_initial, accepted}
use Rattle.session_final.specs.Reply.{body_at, named_body, body-fills, AcceptedReply, accepted-reply, refused-reply}
use Rattle.claims.specs.Load.{Load, card_of, body_given}
use Rattle.claims.specs.Loaded.{mode-counted, mode-slot, mode-below, record-given, shill-held, div-given, is-a-load}
use Rattle.claims.specs.Kept.{left, Kept, kept}
use Rattle.claims.specs.Found as found

-- "Then the reply is record, DivData and padding under KeysHash by CBC", by T-01 with the payload behind a shorter record: the body is that of the
-- load's mode at `at`, which the text names
pub record AcceptedFinal (l : Load) (ps : List Place) (x : Call) : Type 0 where
  pub at : ℕ
  pub given : at < l.given.mode_count
  pub named : (get_or l.given.modes at past_mode).id ≡ op_mode (text_of (left l ps) (data_of x.command))
  pub fills : length (padded (body_given l at ++ l.given.div_data)) ≡ 16 * (card_of l).reply_size
  pub answered :
      bytes_of (left l ps) x
      ≡ encrypted (aes_under (card_keys_hash (left l ps) (data_of x.command))) zeros (card_of l).reply_size (padded (body_given l at ++ l.given.div_data))

-- "Otherwise the first 16B fresh bytes go by CBC under the shill key, unpadded.", by T-04 one of L bytes
abbrev pub RefusedFinal : Load → List Place → Call → Type 0
RefusedFinal l ps x = bytes_of (left l ps) x ≡ encrypted (aes_under (keys.bytes_of l.given.shill_key)) zeros (card_of l).reply_size (part x.fresh 0 (16 * (card_of l).reply_size))

-- a final command that is not declined: accepted or refused, and so answered
pub record FinalAnswers (l : Load) (ps : List Place) (x : Call) : Type 0 where
  pub if-accepted : accepted (left l ps) x ≡ true → AcceptedFinal l ps x
  pub if-refused : accepted (left l ps) x ≡ false → RefusedFinal l ps x

-- the body of a mode that was given, as the card has it
module _ (l : Load) (i : ℕ) (h : i < l.given.mode_count) where
  pub body-given : body_at (card_of l) (mode_at (card_of l) i) ++ (card_of l).div_data ≡ body_given l i ++ l.given.div_data
  body-given =
      ap₂ (λ (r d : List ℕ). body_of r (card_of l).reply_size ++ d)
      (ap (λ (s : ModeSlot). part (card_of l).area s.start s.len) (mode-slot l i h) ∙ record-given l i h)
      (div-given l)

  -- THE TEXT FILLS B BLOCKS, whichever record it is
  pub text-fills : length (padded (body_given l i ++ l.given.div_data)) ≡ 16 * (card_of l).reply_size
  text-fills =
      let g = (is-a-load l).stocked in
      sym (ap (λ (s : List ℕ). length (padded s)) body-given)
      ∙ body-fills (card_of l) (mode_at (card_of l) i) g (g.good i (ap (λ (s : ModeSlot). s.held) (mode-slot l i h)))

module _ (l : Load) (ps : List Place) (x : Call) (goes : is_declined (key_length_of (left l ps)) x ≡ false) (final : is_initial x ≡ false) where
  kp : Kept l ps
  kp = kept l ps

  d : List ℕ
  d = data_of x.command

  passes : (b : Bool) → eqb (verdict_on x.interface (key_length_of (left l ps)) x.command x.fresh x.room).status 0x9000 ≡ b → not b ≡ false → b ≡ true
  passes true e q = refl
  passes false e q = absurd (true≢false q)

  goes_on : eqb (verdict_on x.interface (key_length_of (left l ps)) x.command x.fresh x.room).status 0x9000 ≡ true
  goes_on = passes (eqb (verdict_on x.interface (key_length_of (left l ps)) x.command x.fresh x.room).status 0x9000) refl goes

  fresh-long : length x.fresh ≡ 253
  fresh-long = (passed x.interface (key_length_of (left l ps)) (length x.command) (frame_of x.command) x.fresh x.room (eqb-true _ _ goes_on)).fresh-long

  bytes-are : bytes_of (left l ps) x ≡ (final_reply (left l ps) d x.fresh).bytes
  unfolding answer_bytes reply_to d
  bytes-are = rw (goes_on, final)

  accepts-are : accepted (left l ps) x ≡ accepts_final (left l ps) d
  unfolding accepted d
  accepts-are = rw (goes, final)

  size_is : (left l ps).reply_size ≡ (card_of l).reply_size
  size_is = ap (λ (c : Card). c.reply_size) kp.same

  module _ (e : accepts_final (left l ps) d ≡ true) where
    at : ℕ
    at = mode_of (left l ps) d

    reply : AcceptedReply (left l ps) d x.fresh
    reply = accepted-reply (left l ps) d x.fresh kp.stocked e

    slot_is : mode_at (left l ps) at ≡ mode_at (card_of l) at
    slot_is = ap (λ (c : Card). mode_at c at) kp.same

    counted : at < l.given.mode_count
    unfolding at
    counted = mode-counted l at (sym (ap (λ (s : ModeSlot). s.held) slot_is) ∙ reply.is_held)

    mode-is : mode_at (left l ps) at ≡ mode_slot (get_or l.given.modes at past_mode)
    mode-is = slot_is ∙ mode-slot l at counted

    text-is : named_body (left l ps) d ++ (left l ps).div_data ≡ body_given l at ++ l.given.div_data
    unfolding at
    text-is = ap (λ (c : Card). body_at c (mode_at c at) ++ c.div_data) kp.same ∙ body-given l at counted

    answered-so : AcceptedFinal l ps x
    unfolding at d
    answered-so =
        record {
          at = at;
          given = counted;
          named = sym (ap (λ (s : ModeSlot). s.id) mode-is) ∙ reply.is-mode;
          fills = text-fills l at counted;
          answered =
              bytes-are
              ∙ reply.replied
              ∙ ap₂ (λ (n : ℕ) (s : List ℕ). encrypted (aes_under (card_keys_hash (left l ps) d)) zeros n (padded s)) size_is text-is;
        }

  refused-so : accepts_final (left l ps) d ≡ false → RefusedFinal l ps x
  refused-so e =
      bytes-are
      ∙ refused-reply (left l ps) d x.fresh kp.stocked e fresh-long
      ∙ ap₂ (λ (k : List ℕ) (n : ℕ). encrypted (aes_under k) zeros n (part x.fresh 0 (16 * n))) (ap (λ (c : Card). keys.held (key_length_of c) c.shill_key) kp.same ∙ shill-held l) size_is

  pub final-answers : FinalAnswers l ps x
  final-answers = record { if-accepted = λ a. answered-so (sym accepts-are ∙ a); if-refused = λ a. refused-so (sym accepts-are ∙ a) }

-- of two modes of a load that have one OpModeID, each is the other
one-mode : (l : Load) (v : OpModeId) (i : ℕ) → i < l.given.mode_count → (get_or l.given.modes i past_mode).id ≡ v → first_mode 0 v (card_of l).modes ≡ i
one-mode l v i h e =
    let s = mode-slot l i h in
    found.mode-is (card_of l) (is-a-load l).stocked v i (mode-below l i h) (ap (λ (m : ModeSlot). m.held) s) (ap (λ (m : ModeSlot). m.id) s ∙ e)

-- so the body is that of every mode which has the OpModeID that the text names
pub named-answer : (l : Load) (ps : List Place) (x : Call) → is_initial x ≡ false → accepted (left l ps) x ≡ true →
    (i : ℕ) → i < l.given.mode_count → op_mode (text_of (left l ps) (data_of x.command)) ≡ (get_or l.given.modes i past_mode).id →
    bytes_of (left l ps) x
    ≡ encrypted (aes_under (card_keys_hash (left l ps) (data_of x.command))) zeros (card_of l).reply_size (padded (body_given l i ++ l.given.div_data))
unfolding accepted
named-answer l ps x final e i h q =
    let goes : is_declined (key_length_of (left l ps)) x ≡ false = not-true (is_declined (key_length_of (left l ps)) x) (split-and _ _ e).0 in
    let a = (final-answers l ps x goes final).if-accepted e in
    let v : OpModeId = op_mode (text_of (left l ps) (data_of x.command)) in
    let same : a.at ≡ i = sym (one-mode l v a.at a.given a.named) ∙ one-mode l v i h (sym q) in
    a.answered
    ∙ ap (λ (n : ℕ). encrypted (aes_under (card_keys_hash (left l ps) (data_of x.command))) zeros (card_of l).reply_size (padded (body_given l n ++ l.given.div_data))) same
