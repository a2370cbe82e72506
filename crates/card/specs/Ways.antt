-- The three ways through a command call, from what each part ensures to what is told of the outcome and the output bytes; and from what is told to
-- the outcome. Assumes nothing.
use Rattle.std.specs.Prelude.{◌≡◌, not, List, ℕ, length, get_or}
use Rattle.std.proofs.Math.Path.{refl, ap}
use Rattle.std.proofs.Common.{sym, ap₂, ◌∙◌, arith}
use Rattle.std.proofs.Math.Bool.{true, false}
use Rattle.std.proofs.Math.Dec.{eqb}
use borrow.Author.Tests.{eq-eqb, ne_eqb}
use Rattle.octets.specs.Lists.{over, over_none}
use Rattle.work.specs.Steps.{comparison, decipherment, encipherment, expansion, hash_block, counted}
use Rattle.frame.specs.Frame.{frame_of, ins_of, data_of}
use Rattle.frame.specs.Laws.{command-ins}
use Rattle.frame.specs.Declines.{Verdict}
use Rattle.initial.specs.Initial.{initial_reply}
use Rattle.initial.specs.Told.{told_initial}
use Rattle.initial.proofs.Laws.{initial-counted}
use Rattle.initial.specs.declared.Initial.{Initial}
use Rattle.final_command.specs.Final.{accepts_final, final_reply}
use Rattle.final_command.specs.Told.{told_final}
use Rattle.final_command.specs.declared.Final.{Final}
use Rattle.plaid_types.specs.Keys.{key_length_of}
use Rattle.plaid_types.specs.Tries.{tries_after}
use Rattle.plaid_types.specs.Cards.{with_session, with_tries}
use Rattle.plaid_types.specs.declared.Tries.{Tries}
use Rattle.plaid_types.specs.declared.Card.{Card}
use Rattle.plaid_types.specs.declared.Outcome.{Outcome}
use Rattle.card.specs.Command.{reply_to, refuses_final, done, verdict_on, outcome, answer_bytes}
use Rattle.card.specs.Demand3.{card-kept}
use Rattle.card.specs.After.{refused_try, told_of, after_decline, after_initial, after_final}
use Rattle.card.specs.declared.Told.{Told}

module _ (c : Card) (i : ℕ) (cmd fresh o : List ℕ) (v : Verdict) (q : v ≡ verdict_on i (key_length_of c) cmd fresh (length o)) where
  status-is : (verdict_on i (key_length_of c) cmd fresh (length o)).status ≡ v.status
  status-is = ap (λ (x : Verdict). x.status) (sym q)

  pub by-decline : (r : Told) → (v.status ≡ 0x9000 → ⊥) → r ≡ after_decline c.session v →
      (r ≡ told_of (refused_try c i cmd fresh (length o)) (outcome c i cmd fresh (length o))) × (o ≡ over o 0 (answer_bytes c i cmd fresh (length o)))
  unfolding outcome answer_bytes refused_try
  by-decline r n e =
      let t : eqb (verdict_on i (key_length_of c) cmd fresh (length o)).status 0x9000 ≡ false = ap (λ (x : ℕ). eqb x 0x9000) status-is ∙ ne_eqb v.status 0x9000 n in
      (rw (t, ← q) e, rw t (sym (over_none o 0)))

  passes : v.status ≡ 0x9000 → eqb (verdict_on i (key_length_of c) cmd fresh (length o)).status 0x9000 ≡ true
  passes e = ap (λ (x : ℕ). eqb x 0x9000) status-is ∙ eq-eqb v.status 0x9000 e

  other_none : (k : ℕ) → eqb comparison k ≡ false → (d : List ℕ) → length c.sets ≡ 8 → counted k (initial_reply c d fresh).steps ≡ 0
  other_none k e d l = initial-counted k c d fresh l ∙ rw e (omega arith)

  pub by-initial : (e d : List ℕ) (r : Initial) (z : Told) → v.status ≡ 0x9000 → length c.sets ≡ 8 → d ≡ data_of cmd → get_or cmd 1 0 ≡ 0x87 →
      r ≡ told_initial (initial_reply c d fresh) → e ≡ over o 0 (initial_reply c d fresh).bytes → z ≡ after_initial r →
      (z ≡ told_of (refused_try c i cmd fresh (length o)) (outcome c i cmd fresh (length o))) × (e ≡ over o 0 (answer_bytes c i cmd fresh (length o)))
  unfolding outcome answer_bytes reply_to refused_try refuses_final
  by-initial e d r z s l qd qi qr qe qz =
      let ins : eqb (ins_of (frame_of cmd)) 0x87 ≡ true = eq-eqb (ins_of (frame_of cmd)) 0x87 (command-ins cmd ∙ qi) in (
        qz ∙ rw (passes s, ins, ← qd, qr, other_none decipherment refl d l, other_none encipherment refl d l, other_none expansion refl d l, other_none hash_block refl d l),
        rw (passes s, ins, ← qd) qe,
      )

  final-told : (d : List ℕ) (t : Tries) → ◌≡◌ {A = Told} (after_final (told_final (accepts_final c d) (final_reply c d fresh))) (told_of (not (accepts_final c d)) (done c t (final_reply c d fresh)))
  unfolding final_reply
  final-told d t = refl

  pub by-final : (e d : List ℕ) (r : Final) (z : Told) → v.status ≡ 0x9000 → d ≡ data_of cmd → (get_or cmd 1 0 ≡ 0x87 → ⊥) →
      r ≡ told_final (accepts_final c d) (final_reply c d fresh) → e ≡ over o 0 (final_reply c d fresh).bytes → z ≡ after_final r →
      (z ≡ told_of (refused_try c i cmd fresh (length o)) (outcome c i cmd fresh (length o))) × (e ≡ over o 0 (answer_bytes c i cmd fresh (length o)))
  unfolding outcome answer_bytes reply_to refused_try refuses_final
  by-final e d r z s qd qi qr qe qz =
      let ins : eqb (ins_of (frame_of cmd)) 0x87 ≡ false = ne_eqb (ins_of (frame_of cmd)) 0x87 (λ h. qi (sym (command-ins cmd) ∙ h)) in (
        qz ∙ ap after_final qr ∙ rw (passes s, ins, ← qd) (final-told d (tries_after i (not (accepts_final c d)) c.tries)),
        rw (passes s, ins, ← qd) qe,
      )

-- the card with the session that is told, and the tries counted on where a try was refused, is the outcome's: a call changes nothing else of it
pub by-told : (c : Card) (i : ℕ) (cmd fresh : List ℕ) (room : ℕ) (t : Told) (u : Tries) (k : Card) → t ≡ told_of (refused_try c i cmd fresh room) (outcome c i cmd fresh room) →
    u ≡ tries_after i t.refused c.tries → k ≡ with_tries (with_session c t.session) u →
    ◌≡◌ {A = Outcome} (record { answer = t.answer; sum = t.sum; card = k }) (outcome c i cmd fresh room)
by-told c i cmd fresh room t u k qt qu qk =
    let kept = card-kept c i cmd fresh room in
    let next : k ≡ (outcome c i cmd fresh room).card =
    qk
    ∙ ap (with_tries (with_session c t.session)) qu
    ∙ ap (λ (x : Told). with_tries (with_session c x.session) (tries_after i x.refused c.tries)) qt
    ∙ ap (λ (x : Card). with_tries (with_session c x.session) (tries_after i (refused_try c i cmd fresh room) c.tries)) kept
    ∙ sym kept in
    ap₂ (λ (x : Told) (y : Card). record { answer = x.answer; sum = x.sum; card = y }) qt next
