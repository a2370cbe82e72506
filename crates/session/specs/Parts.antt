-- What the session promise is put together from: a call that is not declined, and the block that opens. Assumes nothing.
use Rattle.std.specs.Prelude.{◌≡◌, Bool, true, false, ◌&&◌, ℕ, ◌+◌, ◌/◌, ◌%◌, ◌<◌, ◌≤◌, eqb, ltb, length}
use Rattle.std.proofs.Math.Path.{refl, sym, ap}
use Rattle.std.proofs.Common.{◌∙◌, true≢false, eq-eqb, ltb-true, ltb-false}
use Rattle.std.proofs.Math.Bool.{cond, not}
use mathlib.Core.List.{List, [], ◌∷◌, ◌++◌, append_assoc}
use native.Mathlib.Omega.{arith}
use Rattle.std.proofs.Math.ListN.{length-append}
use Rattle.octets.specs.Lists.{part}
use Rattle.octets.specs.Same.{same_of}
use Rattle.frame.specs.Frame.{frame_of, ins_of, initial_ins, status_of, data_of}
use Rattle.frame.specs.Declines.{Verdict, pad_bytes, no_zero, verdict}
use Rattle.frame.specs.Laws.{length-pads}
use Rattle.plaid_types.specs.Keys.{key_length_of}
use Rattle.plaid_types.specs.Tries.{is_interface, tries_after}
use Rattle.plaid_types.specs.Cards.{with_session, with_tries}
use Rattle.plaid_types.specs.declared.KeySetId.{KeySetId}
use Rattle.plaid_types.specs.declared.Tries.{Tries}
use Rattle.plaid_types.specs.declared.Card.{Card}
use Rattle.plaid_types.specs.declared.Outcome.{Outcome}
use Rattle.initial.specs.Initial.{str1, block_of}
use Rattle.initial.proofs.Laws.{length-str1}
use Rattle.final_command.specs.Final.{accepts_final}
use Rattle.card.specs.Command.{reply_to, refuses_final, done, undone, verdict_on, outcome, answer_bytes}
use Rattle.reader_open.specs.Open.{text_of, id_of, div_of, rnd1_of, rnd1_copy, agrees, opens_as, winner}
use Rattle.reader_open.specs.Laws.{opens_entry, Winner, won, lost, Encrypted, form-formed, form-text}
use Rattle.session_initial.specs.Parts.{part-after, part-last}

-- a call whose frame is right and that gets no number is not declined
passes-by : (s : ℕ) (x a b d : Bool) → s ≡ 0x9000 →
    (cond {A = Verdict} x (cond a (cond b (cond d (record { number = 10; status = 0 }) (record { number = 0; status = s })) (record { number = 9; status = 0 })) (record { number = 8; status = 0 })) (record { number = 26; status = 0 })).number ≡ 0 →
    (cond {A = Verdict} x (cond a (cond b (cond d (record { number = 10; status = 0 }) (record { number = 0; status = s })) (record { number = 9; status = 0 })) (record { number = 8; status = 0 })) (record { number = 26; status = 0 })).status ≡ 0x9000
passes-by s true true true true e z = absurd (omega arith)
passes-by s true true true false e z = e
passes-by s true true false d e z = absurd (omega arith)
passes-by s true false b d e z = absurd (omega arith)
passes-by s false a b d e z = absurd (omega arith)

verdict-passes : (i l n : ℕ) (f fresh : List ℕ) (room : ℕ) → status_of n f ≡ 0x9000 → (verdict i l n f fresh room).number ≡ 0 → (verdict i l n f fresh room).status ≡ 0x9000
unfolding verdict
verdict-passes i l n f fresh room e z = passes-by (status_of n f) (is_interface i) (eqb (length fresh) 253) (no_zero (pad_bytes l fresh)) (ltb room 256) e z

module _ (c : Card) (i : ℕ) (cmd fresh : List ℕ) (room : ℕ) (right : status_of (length cmd) (frame_of cmd) ≡ 0x9000) where
  abbrev l : ℕ
  l = key_length_of c

  abbrev tries : Tries
  tries = tries_after i (refuses_final c cmd) c.tries

  ok-by : (t : Bool) → eqb (verdict_on i l cmd fresh room).status 0x9000 ≡ t →
      (cond {A = Outcome} t (done c tries (reply_to c cmd fresh)) (undone c (verdict_on i l cmd fresh room))).answer.number ≡ 0 →
      eqb (verdict_on i l cmd fresh room).status 0x9000 ≡ true
  ok-by true e z = e
  ok-by false e z = eq-eqb (verdict_on i l cmd fresh room).status 0x9000 (verdict-passes i l (length cmd) (frame_of cmd) fresh room right z)

  pub goes_on : (outcome c i cmd fresh room).answer.number ≡ 0 → eqb (verdict_on i l cmd fresh room).status 0x9000 ≡ true
  unfolding outcome
  goes_on z = ok-by (eqb (verdict_on i l cmd fresh room).status 0x9000) refl z

  -- its answer bytes and its next card are those of the reply
  pub call-bytes : (outcome c i cmd fresh room).answer.number ≡ 0 → answer_bytes c i cmd fresh room ≡ (reply_to c cmd fresh).bytes
  unfolding answer_bytes
  call-bytes z = ap (λ (t : Bool). cond t (reply_to c cmd fresh).bytes []) (goes_on z)

  call-card : (outcome c i cmd fresh room).answer.number ≡ 0 → (outcome c i cmd fresh room).card ≡ with_tries (with_session c (reply_to c cmd fresh).session) tries
  unfolding outcome
  call-card z =
      ap (λ (t : Bool). (cond {A = Outcome} t (done c tries (reply_to c cmd fresh)) (undone c (verdict_on i l cmd fresh room))).card)
      (goes_on z)

  -- an initial command is not counted
  pub initial-card : ins_of (frame_of cmd) ≡ initial_ins → (outcome c i cmd fresh room).answer.number ≡ 0 → (outcome c i cmd fresh room).card ≡ with_session c (reply_to c cmd fresh).session
  unfolding refuses_final tries_after
  initial-card e z =
      call-card z
      ∙ ap (λ (t : Bool). with_tries (with_session c (reply_to c cmd fresh).session) (tries_after i (not t && not (accepts_final c (data_of cmd))) c.tries)) (eq-eqb (ins_of (frame_of cmd)) initial_ins e)

-- the parts of STR1 with an RND1 of l bytes, as Open reads them
module _ (l : ℕ) (k : KeySetId) (div rnd1 : List ℕ) (ld : length div ≡ 16) (lr : length rnd1 ≡ l) where
  pub text-div : div_of (str1 k div rnd1) ≡ div
  unfolding str1
  text-div = part-after (k.0 / 256 ∷ k.0 % 256 ∷ []) div (rnd1 ++ rnd1) 2 16 refl ld

  pub text-rnd1 : rnd1_of l (str1 k div rnd1) ≡ rnd1
  unfolding str1
  text-rnd1 = part-after (k.0 / 256 ∷ k.0 % 256 ∷ div) rnd1 rnd1 18 l (omega arith) lr

  text-copy : rnd1_copy l (str1 k div rnd1) ≡ rnd1
  unfolding str1
  text-copy =
      ap (λ (x : List ℕ). part (k.0 / 256 ∷ k.0 % 256 ∷ x) (18 + l) l) (sym (append_assoc div rnd1 rnd1))
      ∙ part-last (k.0 / 256 ∷ k.0 % 256 ∷ (div ++ rnd1)) rnd1 (18 + l) l (omega (arith, length-append div rnd1)) lr

  text-id : (id_of (str1 k div rnd1)).0 ≡ k.0
  unfolding str1
  text-id = omega arith

  text-agrees : agrees l k (str1 k div rnd1) ≡ true
  unfolding agrees
  text-agrees = rw (eq-eqb (id_of (str1 k div rnd1)).0 k.0 text-id) (same_of (rnd1_of l (str1 k div rnd1)) (rnd1_copy l (str1 k div rnd1)) (text-rnd1 ∙ sym text-copy))

  -- the card's block opens for its KeySetID
  module _ (h : l ≤ 32) (fresh : List ℕ) (lf : length fresh ≡ 253) (nz : no_zero (pad_bytes l fresh) ≡ true) where
    form : Encrypted l (block_of l fresh (str1 k div rnd1)) (pad_bytes l fresh) (str1 k div rnd1)
    unfolding block_of
    form =
        record {
          is = ap (λ (x : List ℕ). 0 ∷ 2 ∷ x) (append_assoc (pad_bytes l fresh) (0 ∷ []) (str1 k div rnd1));
          nonzero = nz;
          ps-long = length-pads l fresh lf;
          m-long = length-str1 l k div rnd1 ld lr;
        }

    pub block-text : text_of l (block_of l fresh (str1 k div rnd1)) ≡ str1 k div rnd1
    block-text = form-text l h form

    pub block-opens : opens_as l k (block_of l fresh (str1 k div rnd1)) ≡ true
    unfolding opens_as
    block-opens = rw (form-formed l h form, block-text) text-agrees

-- the entry that opens with none before it is the winner
module _ (l : ℕ) (ids : List KeySetId) (n : ℕ) (blocks : List ℕ) (j : ℕ) (h : j < n) (o : opens_entry l ids blocks j ≡ true) (e : (m : ℕ) → m < j → opens_entry l ids blocks m ≡ false) where
  order-by : (i : ℕ) (a b : Bool) → ltb i j ≡ a → ltb j i ≡ b → opens_entry l ids blocks i ≡ true → ((m : ℕ) → m < i → opens_entry l ids blocks m ≡ false) → i ≡ j
  order-by i true b p q oi ei = absurd (true≢false (sym oi ∙ e i (ltb-true i j p)))
  order-by i false true p q oi ei = absurd (true≢false (sym o ∙ ei j (ltb-true j i q)))
  order-by i false false p q oi ei = omega (arith, ltb-false i j p, ltb-false j i q)

  pub winner-is : Winner l ids n blocks → winner l ids n blocks ≡ j
  winner-is (won w) = order-by (winner l ids n blocks) (ltb (winner l ids n blocks) j) (ltb j (winner l ids n blocks)) refl refl w.opens w.earlier
  winner-is (lost f q) = absurd (true≢false (sym o ∙ f j h))
