-- T-07, "The session ends under the old key": loads of key sets change the table alone, and what a final command hands back is the same whatever
-- the table is. Assumes nothing.
use Rattle.std.specs.Prelude.{◌≡◌, Bool, true, false, ◌&&◌, List, [], ◌∷◌, map, ℕ, eqb}
use Rattle.std.proofs.Math.Path.{refl, ap}
use Rattle.std.proofs.Common.{◌∙◌}
use Rattle.std.proofs.Math.Bool.{cond, not}
use Rattle.frame.specs.Frame.{frame_of, ins_of, initial_ins, data_of}
use Rattle.frame.specs.Declines.{Verdict}
use Rattle.plaid_types.specs.Keys.{key_length_of}
use Rattle.plaid_types.specs.Tries.{tries_after}
use Rattle.plaid_types.specs.Cards.{Reply, with_sets}
use Rattle.plaid_types.specs.declared.KeySet.{KeySet}
use Rattle.plaid_types.specs.declared.KeySetSlot.{KeySetSlot}
use Rattle.plaid_types.specs.declared.Tries.{Tries}
use Rattle.plaid_types.specs.declared.Card.{Card}
use Rattle.plaid_types.specs.declared.Outcome.{Outcome}
use Rattle.final_command.specs.Final.{fa_key_of, rnd1_of, diversified, text_of, hashed_of, card_keys_hash, mode_of, deciphered_text, accepts_final, reply_key, size_of, reply_buffer, final_bytes, final_steps, final_reply}
use Rattle.key_change.specs.KeyChange.{sets_loaded}
use Rattle.key_change.proofs.Laws.{only-table}
use Rattle.card.specs.Command.{reply_to, refuses_final, done, undone, verdict_on, outcome, answer_bytes}
use Rattle.card.specs.Lists.{Call, outcome_of, bytes_of, key_sets, card_after, is_initial}

-- behind loads alone nothing but the table is another
pub loads-table : (k : Card) (ss : List (List KeySet)) → card_after k (map key_sets ss) ≡ with_sets k (card_after k (map key_sets ss)).sets
unfolding card_after
loads-table k [] = refl
loads-table k (s ∷ ss) =
    let m : Card = (sets_loaded k s).card in
    let t : List KeySetSlot = (card_after m (map key_sets ss)).sets in
    loads-table m ss ∙ ap (λ (e : Card). with_sets e t) (only-table k s)

module _ (c : Card) (t : List KeySetSlot) where
  final-same : (d fresh : List ℕ) → final_reply (with_sets c t) d fresh ≡ final_reply c d fresh
  unfolding final_reply final_bytes final_steps reply_buffer size_of reply_key accepts_final deciphered_text card_keys_hash mode_of hashed_of text_of diversified rnd1_of fa_key_of
  final-same d fresh = refl

  accepts-same : (d : List ℕ) → accepts_final (with_sets c t) d ≡ accepts_final c d
  unfolding accepts_final deciphered_text card_keys_hash mode_of hashed_of text_of diversified rnd1_of fa_key_of
  accepts-same d = refl

  -- an outcome with the table t in its card
  abbrev pub tabled_as : Outcome → Outcome
  tabled_as o = record { answer = o.answer; sum = o.sum; card = with_sets o.card t }

  cases : (b : Bool) (v : Verdict) {u w : Tries} {r s : Reply} → u ≡ w → r ≡ s →
      cond {A = Outcome} b (done (with_sets c t) u r) (undone (with_sets c t) v) ≡ tabled_as (cond b (done c w s) (undone c v))
  cases true v p q = λ i. done (with_sets c t) (p i) (q i)
  cases false v p q = refl

  -- a final command, by its whole outcome and its bytes
  module _ (x : Call) (final : is_initial x ≡ false) where
    reply-same : reply_to (with_sets c t) x.command x.fresh ≡ reply_to c x.command x.fresh
    unfolding reply_to
    reply-same = rw final (final-same (data_of x.command) x.fresh)

    refuses-same : refuses_final (with_sets c t) x.command ≡ refuses_final c x.command
    unfolding refuses_final
    refuses-same = ap (λ (b : Bool). not (eqb (ins_of (frame_of x.command)) initial_ins) && not b) (accepts-same (data_of x.command))

    pub final-outcome : outcome_of (with_sets c t) x ≡ tabled_as (outcome_of c x)
    unfolding outcome
    final-outcome =
        cases (eqb (verdict_on x.interface (key_length_of c) x.command x.fresh x.room).status 0x9000) (verdict_on x.interface (key_length_of c) x.command x.fresh x.room)
        (ap (λ (b : Bool). tries_after x.interface b c.tries) refuses-same) reply-same

    pub final-bytes : bytes_of (with_sets c t) x ≡ bytes_of c x
    unfolding answer_bytes
    final-bytes =
        ap (λ (r : Reply). cond (eqb (verdict_on x.interface (key_length_of c) x.command x.fresh x.room).status 0x9000) r.bytes []) reply-same
