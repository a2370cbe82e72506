-- T-06 over a list: what the failed tries come to, and that nothing else of a call depends on them. Assumes nothing.
use Rattle.std.specs.Prelude.{◌≡◌, refl, Bool, true, false, ◌&&◌, not, List, [], ◌∷◌, ℕ, ◌+◌, ◌≤◌, eqb}
use Rattle.std.proofs.Common.{sym, ap, ◌∙◌, subst, arith, ne_eqb}
use Rattle.std.proofs.Math.Path.{ap₂}
use Rattle.std.proofs.Math.Bool.{cond}
use Rattle.std.proofs.Math.Option.{Option, some as answered, map}
use Rattle.work.specs.Steps.{work_sum}
use Rattle.frame.specs.Frame.{data_of}
use Rattle.frame.specs.Declines.{Verdict}
use Rattle.plaid_types.specs.Keys.{key_length_of}
use Rattle.plaid_types.specs.Tries.{is_interface, holding, one_more, tries_after, tries_on}
use Rattle.plaid_types.specs.TriesLaws.{holding-small, holding-more, holding-most, count-after}
use Rattle.plaid_types.specs.Cards.{Reply, with_session, with_tries}
use Rattle.plaid_types.specs.declared.KeySet.{KeySet}
use Rattle.plaid_types.specs.declared.Session.{Session}
use Rattle.plaid_types.specs.declared.Tries.{Tries}
use Rattle.plaid_types.specs.declared.Card.{Card}
use Rattle.plaid_types.specs.declared.Answer.{Answer}
use Rattle.plaid_types.specs.declared.Outcome.{Outcome}
use Rattle.initial.specs.Initial.{accepts_initial}
use Rattle.final_command.specs.Final.{accepts_final}
use Rattle.key_change.specs.KeyChange.{sets_loaded}
use Rattle.key_change.proofs.Laws.{only-table, in-state}
use Rattle.card.specs.Command.{reply_to, refuses_final, told, declined, done, undone, verdict_on, outcome, answer_bytes}
use Rattle.card.specs.After.{refused_try}
use Rattle.card.specs.Unseen.{reply-unseen}
use Rattle.card.specs.Lists.{Call, outcome_of, bytes_of, Place, command, key_sets, outcome_at, bytes_at, next, run, card_after, is_initial, accepted, refused_final, refused_at, refusals, bytes_of_all, ButTries, Unseen}
use Rattle.card.specs.Demand3.{card-kept}

-- neither declined nor accepted, of a final command, is what the card counts
module _ (c : Card) (x : Call) where
  ok : Bool
  ok = eqb (verdict_on x.interface (key_length_of c) x.command x.fresh x.room).status 0x9000

  refused-by : (t u v w : Bool) → (not u && (not (not t) && not (not (not t) && cond u v w))) ≡ (t && (not u && not w))
  refused-by true true v w = refl
  refused-by true false v w = refl
  refused-by false true v w = refl
  refused-by false false v w = refl

  refused-is : refused_final c x ≡ refused_try c x.interface x.command x.fresh x.room
  unfolding refused_final accepted refused_try refuses_final ok
  refused-is = refused-by ok (is_initial x) (accepts_initial c (data_of x.command)) (accepts_final c (data_of x.command))

  next-tries : (outcome_of c x).card.tries ≡ tries_after x.interface (refused_final c x) c.tries
  next-tries =
      ap (λ (k : Card). k.tries) (card-kept c x.interface x.command x.fresh x.room)
      ∙ ap (λ (t : Bool). tries_after x.interface t c.tries) (sym refused-is)

  next-count : (j : ℕ) → is_interface j ≡ true → tries_on j (outcome_of c x).card.tries ≡ cond (refused_final c x && eqb x.interface j) (one_more (tries_on j c.tries)) (tries_on j c.tries)
  next-count j h = ap (tries_on j) next-tries ∙ count-after x.interface j h (refused_final c x) c.tries

  -- "A try on one interface never moves the other's count"
  pub other-kept : (j : ℕ) → is_interface j ≡ true → (x.interface ≡ j → ⊥) → tries_on j (outcome_of c x).card.tries ≡ tries_on j c.tries
  other-kept j h n = next-count j h ∙ by (refused_final c x)
    where
      by : (t : Bool) → cond (t && eqb x.interface j) (one_more (tries_on j c.tries)) (tries_on j c.tries) ≡ tries_on j c.tries
      by true = rw (ne_eqb x.interface j n)
      by false = refl

count_most : (t : Bool) (n : ℕ) → n ≤ 65535 → cond t (one_more n) n ≤ 65535
count_most true n h = holding-most (n + 1)
count_most false n h = h

count-more : (t : Bool) (n r : ℕ) → holding (cond t (one_more n) n + r) ≡ holding (n + (cond t 1 0 + r))
count-more true n r = holding-more (n + 1) r ∙ ap holding (omega arith)
count-more false n r = ap holding (omega arith)

place-count : (c : Card) (p : Place) (j : ℕ) → is_interface j ≡ true → tries_on j (next c p).tries ≡ cond (refused_at j c p) (one_more (tries_on j c.tries)) (tries_on j c.tries)
place-count c (command x) j h = next-count c x j h
place-count c (key_sets s) j h = ap (λ (k : Card). tries_on j k.tries) (only-table c s)

-- "The card counts refused final commands separately for the two .. and holds at 65,535": each count after a list
pub list-tries : (j : ℕ) → is_interface j ≡ true → (c : Card) → tries_on j c.tries ≤ 65535 → (ps : List Place) →
    tries_on j (card_after c ps).tries ≡ holding (tries_on j c.tries + refusals j c ps)
unfolding card_after refusals
list-tries j h c m [] = sym (ap holding (omega arith) ∙ holding-small (tries_on j c.tries) m)
list-tries j h c m (p ∷ ps) =
    let t : Bool = refused_at j c p in
    let n : ℕ = tries_on j c.tries in
    let e : tries_on j (next c p).tries ≡ cond t (one_more n) n = place-count c p j h in
    list-tries j h (next c p) (subst (λ (k : ℕ). k ≤ 65535) (sym e) (count_most t n m)) ps
    ∙ ap (λ (k : ℕ). holding (k + refusals j (next c p) ps)) e
    ∙ count-more t n (refusals j (next c p) ps)

-- of an outcome, what is sent and summed, by L and the reply
module _ (x : Call) where
  abbrev says : ℕ → Verdict
  says l = verdict_on x.interface l x.command x.fresh x.room

  abbrev answer_by : ℕ → Reply → Answer
  answer_by l r = cond (eqb (says l).status 0x9000) (told r) (declined (says l))

  abbrev sum_by : ℕ → Reply → ℕ
  sum_by l r = cond (eqb (says l).status 0x9000) (work_sum r.steps) 0

  abbrev session_by : Card → ℕ → Reply → Session
  session_by c l r = cond (eqb (says l).status 0x9000) r.session c.session

  outcome-by : (c : Card) (t : Tries) (r : Reply) (l : ℕ) (b : Bool) → (
      ((cond {A = Outcome} b (done c t r) (undone c (says l))).answer ≡ cond b (told r) (declined (says l)))
      × ((cond {A = Outcome} b (done c t r) (undone c (says l))).sum ≡ cond b (work_sum r.steps) 0)
      )
  outcome-by c t r l true = (refl, refl)
  outcome-by c t r l false = (refl, refl)

  answer-is : (c : Card) → (outcome_of c x).answer ≡ answer_by (key_length_of c) (reply_to c x.command x.fresh)
  unfolding outcome
  answer-is c = (outcome-by c _ (reply_to c x.command x.fresh) (key_length_of c) (eqb (says (key_length_of c)).status 0x9000)).0

  sum_is : (c : Card) → (outcome_of c x).sum ≡ sum_by (key_length_of c) (reply_to c x.command x.fresh)
  unfolding outcome
  sum_is c = (outcome-by c _ (reply_to c x.command x.fresh) (key_length_of c) (eqb (says (key_length_of c)).status 0x9000)).1

  module _ (k m : Card) (q : ButTries k m) where
    reply-same : reply_to k x.command x.fresh ≡ reply_to m x.command x.fresh
    reply-same = ap (λ (e : Card). reply_to e x.command x.fresh) q ∙ reply-unseen m k.tries x.command x.fresh

    length-same : key_length_of k ≡ key_length_of m
    length-same = ap key_length_of q

    answer-same : (outcome_of k x).answer ≡ (outcome_of m x).answer
    answer-same = answer-is k ∙ ap₂ answer_by length-same reply-same ∙ sym (answer-is m)

    sum_same : (outcome_of k x).sum ≡ (outcome_of m x).sum
    sum_same = sum_is k ∙ ap₂ sum_by length-same reply-same ∙ sym (sum_is m)

    bytes_same : bytes_of k x ≡ bytes_of m x
    unfolding answer_bytes
    bytes_same = ap₂ (λ (l : ℕ) (r : Reply). cond (eqb (says l).status 0x9000) r.bytes []) length-same reply-same

    next-same : ButTries (outcome_of k x).card (outcome_of m x).card
    next-same =
        let i = x.interface in
        let kept = card-kept k i x.command x.fresh x.room in
        let s : session_by k (key_length_of k) (reply_to k x.command x.fresh) ≡ session_by m (key_length_of m) (reply_to m x.command x.fresh) =
        λ j. session_by (q j) (length-same j) (reply-same j) in
        kept
        ∙ (λ j. with_tries (with_session (q j) (s j)) (tries_after i (refused_try k i x.command x.fresh x.room) k.tries))
        ∙ sym (ap₂ (λ (a b : Card). with_tries a b.tries) (card-kept m i x.command x.fresh x.room) kept)

-- a load of key sets looks at no tries, and keeps them
sets_same : (k m : Card) → ButTries k m → (s : List KeySet) → ButTries (sets_loaded k s).card (sets_loaded m s).card
sets_same k m q s =
    ap (λ (e : Card). (sets_loaded e s).card) q
    ∙ in-state m m.session k.tries s
    ∙ ap₂ (λ (a : Session) (u : Tries). with_tries (with_session (sets_loaded m s).card a) u) (sym (ap (λ (e : Card). e.session) (only-table m s))) (sym (ap (λ (e : Card). e.tries) (only-table k s)))

-- a place
module _ (k m : Card) (q : ButTries k m) where
  outcome-at : (p : Place) → map (λ o. o.answer) (outcome_at k p) ≡ map (λ o. o.answer) (outcome_at m p)
  outcome-at (command x) = ap answered (answer-same x k m q)
  outcome-at (key_sets s) = refl

  sum-at : (p : Place) → map (λ o. o.sum) (outcome_at k p) ≡ map (λ o. o.sum) (outcome_at m p)
  sum-at (command x) = ap answered (sum_same x k m q)
  sum-at (key_sets s) = refl

  bytes-at : (p : Place) → bytes_at k p ≡ bytes_at m p
  bytes-at (command x) = bytes_same x k m q
  bytes-at (key_sets s) = refl

  next-at : (p : Place) → ButTries (next k p) (next m p)
  next-at (command x) = next-same x k m q
  next-at (key_sets s) = sets_same k m q s

-- "nothing sent over the air depends on either": the same card but for its tries gives the same answers, bytes included, for every list
pub list-unseen : (k m : Card) → ButTries k m → (ps : List Place) → Unseen k m ps
unfolding run card_after bytes_of_all
list-unseen k m q [] = record { answers = refl; bytes = refl; sums = refl; cards = q }
list-unseen k m q (p ∷ ps) =
    let rest = list-unseen (next k p) (next m p) (next-at k m q p) ps in
    record {
      answers = ap₂ (λ (a : Option Answer) (l : List (Option Answer)). a ∷ l) (outcome-at k m q p) rest.answers;
      bytes = ap₂ (λ (a : List ℕ) (l : List (List ℕ)). a ∷ l) (bytes-at k m q p) rest.bytes;
      sums = ap₂ (λ (a : Option ℕ) (l : List (Option ℕ)). a ∷ l) (sum-at k m q p) rest.sums;
      cards = rest.cards;
    }
