-- T-06, "nothing sent over the air depends on either [count]": what a command means is the same whatever the failed tries are. Assumes nothing.
use Rattle.std.specs.Prelude.{◌≡◌, List, ℕ, eqb}
use Rattle.std.proofs.Math.Path.{refl}
use Rattle.std.proofs.Math.Bool.{cond}
use Rattle.frame.specs.Frame.{frame_of, ins_of, initial_ins, data_of}
use Rattle.plaid_types.specs.Cards.{with_tries}
use Rattle.plaid_types.specs.declared.Tries.{Tries}
use Rattle.plaid_types.specs.declared.Card.{Card}
use Rattle.initial.specs.Initial.{slot_of, initial_steps, initial_reply}
use Rattle.final_command.specs.Final.{fa_key_of, rnd1_of, diversified, text_of, hashed_of, card_keys_hash, mode_of, deciphered_text, accepts_final, reply_key, size_of, reply_buffer, final_bytes, final_steps, final_reply}
use Rattle.card.specs.Command.{reply_to}

module _ (c : Card) (t : Tries) where
  initial-unseen : (d fresh : List ℕ) → initial_reply (with_tries c t) d fresh ≡ initial_reply c d fresh
  unfolding initial_reply slot_of initial_steps
  initial-unseen d fresh = refl

  final-unseen : (d fresh : List ℕ) → final_reply (with_tries c t) d fresh ≡ final_reply c d fresh
  unfolding final_reply final_bytes final_steps reply_buffer size_of reply_key accepts_final deciphered_text card_keys_hash mode_of hashed_of text_of diversified rnd1_of fa_key_of
  final-unseen d fresh = refl

  pub reply-unseen : (cmd fresh : List ℕ) → reply_to (with_tries c t) cmd fresh ≡ reply_to c cmd fresh
  unfolding reply_to
  reply-unseen cmd fresh =
      λ i. cond (eqb (ins_of (frame_of cmd)) initial_ins) (initial-unseen (data_of cmd) fresh i) (final-unseen (data_of cmd) fresh i)
