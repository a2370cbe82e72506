-- Demand 3, for every list of commands and loads of key sets: at each place the formulas, the work sum of the steps that load, session and call give, and
-- what two lists on two cards have alike. Assumes nothing.
use Rattle.std.specs.Prelude.{◌≡◌, Bool, ◌&&◌, not, ℕ, suc, ◌*◌, ◌/◌, ◌≤◌, eqb, length, get_or, replicate}
use Rattle.std.proofs.Math.Path.{refl, sym, ap, ap₂}
use Rattle.std.proofs.Common.{◌∙◌, arith, eqb-true}
use Rattle.std.proofs.Math.Bool.{true, false, cond}
use mathlib.Core.List.{List, [], ◌∷◌, ◌++◌, map}
use Rattle.std.proofs.Math.Option
use Rattle.std.proofs.Math.Option.{Option, some as answered}
use Rattle.std.proofs.lemmas.List.{get_or_at}
use Rattle.work.specs.Steps.{comparison, decipherment, encipherment, expansion, hash_block, work_sum}
use Rattle.frame.specs.Frame.{frame_of, ins_of, lc_of, initial_ins, data_of}
use Rattle.frame.specs.Laws.{passed, data-long}
use Rattle.frame.specs.Declines.{Verdict}
use Rattle.initial.specs.Initial.{initial_steps, slot_of, accepts_initial, refused_initial, initial_reply, block_of}
use Rattle.initial.proofs.Laws.{initial-counted, initial-length, initial-rnd1, initial-key}
use Rattle.octets.specs.Lists.{part, over}
use Rattle.aes.specs.Aes.{aes_under}
use Rattle.cbc.specs.Cbc.{encrypted, zeros}
use Rattle.final_command.specs.Final.{size_of, accepts_final, reply_key, reply_text, reply_buffer, final_bytes, final_reply}
use Rattle.final_command.specs.Laws.{Stored, final-length, final-comparisons, final-decipherments, final-encipherments, final-expansions, final-hash-blocks, size-loaded}
use Rattle.plaid_types.specs.Keys.{key_length_of, held, str1_length}
use Rattle.plaid_types.specs.Tries.{tries_after}
use Rattle.plaid_types.specs.Cards.{no_session, no_set, with_session, with_tries, with_sets, Reply}
use Rattle.plaid_types.specs.declared.Session.{Session}
use Rattle.plaid_types.specs.declared.Tries.{Tries}
use Rattle.plaid_types.specs.declared.Card.{Card}
use Rattle.plaid_types.specs.declared.Outcome.{Outcome}
use Rattle.plaid_types.specs.declared.KeySet.{KeySet}
use Rattle.load.specs.Load.{table_of}
use Rattle.key_change.specs.KeyChange.{sets_loaded, takes_sets}
use Rattle.key_change.proofs.Laws.{after-by, only-table, in-state, new-table}
use Rattle.card.specs.Command.{reply_to, refuses_final, told, done, undone, verdict_on, outcome, answer_bytes}
use Rattle.card.specs.After.{refused_try}
use Rattle.card.specs.Unseen.{reply-unseen}
use Rattle.card.specs.Lists.{Call, outcome_of, bytes_of, Place, command, key_sets, outcome_at, next, run, card_after, is_declined, is_initial, next_session, load_at, session_at, load_after, session_after, steps_of, steps_at}
use Rattle.card.specs.Lists.{Shape, shape_of, initial_shape, final_shape, decline_shape, formulas, formulas_of, formulas_at, Alike, AlikeAt, calls, loads, AllAlike, none, more, Agree, accepted, SameAnswer, SameAt, Indistinct}

-- what the theorems ask of a card: what a load, every call and every load of key sets leave true of it
pub record Sound (c : Card) : Type 0 where
  pub sets : length c.sets ≡ 8
  pub keys : (i : ℕ) → length (get_or c.sets i no_set).fa_key ≡ 32
  pub modes : length c.modes ≡ 16
  pub div : length c.div_data ≡ 16
  pub stored : Stored c
  pub size : c.reply_size ≤ 6

initial-shape : (c : Card) (cmd fresh : List ℕ) → Sound c → length fresh ≡ 253 → length (data_of cmd) ≡ lc_of (frame_of cmd) →
    shape_of (told (initial_reply c (data_of cmd) fresh)) ≡ initial_shape (lc_of (frame_of cmd))
initial-shape c cmd fresh s lf ld =
    let d : List ℕ = data_of cmd in
    rw (
      initial-counted comparison c d fresh s.sets,
      initial-counted decipherment c d fresh s.sets,
      initial-counted encipherment c d fresh s.sets,
      initial-counted expansion c d fresh s.sets,
      initial-counted hash_block c d fresh s.sets,
      initial-length c d fresh s.div lf,
      ld,
    )
    (shapes (lc_of (frame_of cmd)))
  where
    shapes : (lc : ℕ) → ◌≡◌ {A = Shape} (record { number = 0; status = 0x9000; comparisons = 8 * (lc / 4) * 1; decipherments = 8 * (lc / 4) * 0; encipherments = 8 * (lc / 4) * 0; expansions = 8 * (lc / 4) * 0; hash_blocks = 8 * (lc / 4) * 0; size = 256 }) (initial_shape lc)
    shapes lc =
        let one : 8 * (lc / 4) * 1 ≡ 8 * (lc / 4) = omega arith in
        let no : 8 * (lc / 4) * 0 ≡ 0 = omega arith in
        rw (one, no)

final-shape : (c : Card) (cmd fresh : List ℕ) → Sound c → length (data_of cmd) ≡ lc_of (frame_of cmd) →
    shape_of (told (final_reply c (data_of cmd) fresh)) ≡ final_shape (key_length_of c) c.reply_size (lc_of (frame_of cmd))
final-shape c cmd fresh s ld =
    let d : List ℕ = data_of cmd in
    rw (
      final-comparisons c d fresh s.modes s.stored,
      final-decipherments c d fresh s.modes s.stored,
      final-encipherments c d fresh s.modes s.stored,
      final-expansions c d fresh s.modes s.stored,
      final-hash-blocks c d fresh s.modes s.stored,
      final-length c d fresh,
      size-loaded c s.size,
      ld,
    )

-- one call
module _ (c : Card) (i : ℕ) (cmd fresh : List ℕ) (room : ℕ) where
  tries : Tries
  tries = tries_after i (refuses_final c cmd) c.tries

  ins-shape : (t : Bool) → Sound c → length fresh ≡ 253 → length (data_of cmd) ≡ lc_of (frame_of cmd) →
      shape_of (told (cond t (initial_reply c (data_of cmd) fresh) (final_reply c (data_of cmd) fresh))) ≡ cond t (initial_shape (lc_of (frame_of cmd))) (final_shape (key_length_of c) c.reply_size (lc_of (frame_of cmd)))
  ins-shape true s lf ld = initial-shape c cmd fresh s lf ld
  ins-shape false s lf ld = final-shape c cmd fresh s ld

  status-shape : (t : Bool) → eqb (verdict_on i (key_length_of c) cmd fresh room).status 0x9000 ≡ t → Sound c →
      shape_of (cond {A = Outcome} t (done c tries (reply_to c cmd fresh)) (undone c (verdict_on i (key_length_of c) cmd fresh room))).answer
      ≡ cond t (cond (eqb (ins_of (frame_of cmd)) initial_ins) (initial_shape (lc_of (frame_of cmd))) (final_shape (key_length_of c) c.reply_size (lc_of (frame_of cmd)))) (decline_shape (verdict_on i (key_length_of c) cmd fresh room))
  unfolding reply_to
  status-shape true e s =
      let p = passed i (key_length_of c) (length cmd) (frame_of cmd) fresh room (eqb-true _ _ e) in
      ins-shape (eqb (ins_of (frame_of cmd)) initial_ins) s p.fresh-long (data-long cmd p.frame)
  status-shape false e s = refl

  one-shape : Sound c → shape_of (outcome c i cmd fresh room).answer ≡ formulas i (key_length_of c) c.reply_size (length cmd) (frame_of cmd) fresh room
  unfolding outcome formulas tries
  one-shape s = status-shape (eqb (verdict_on i (key_length_of c) cmd fresh room).status 0x9000) refl s

  card-cases : (t : Bool) →
      (cond {A = Outcome} t (done c tries (reply_to c cmd fresh)) (undone c (verdict_on i (key_length_of c) cmd fresh room))).card
      ≡ with_tries (with_session c (cond t (reply_to c cmd fresh).session c.session)) (tries_after i (t && refuses_final c cmd) c.tries)
  unfolding tries tries_after
  card-cases true = refl
  card-cases false = refl

  -- the next card differs in its state alone
  pub card-kept : (outcome c i cmd fresh room).card
      ≡ with_tries (with_session c (cond (eqb (verdict_on i (key_length_of c) cmd fresh room).status 0x9000) (reply_to c cmd fresh).session c.session)) (tries_after i (refused_try c i cmd fresh room) c.tries)
  unfolding outcome tries refused_try
  card-kept = card-cases (eqb (verdict_on i (key_length_of c) cmd fresh room).status 0x9000)

  -- RND1 and FAKey of the session are held in 32 bytes each
  Held : Session → Type 0
  Held s = (length s.rnd1 ≡ 32) × (length s.fa_key ≡ 32)

  reply-held : (t : Bool) → Sound c → length fresh ≡ 253 → Held (cond t (initial_reply c (data_of cmd) fresh) (final_reply c (data_of cmd) fresh)).session
  unfolding final_reply Held
  reply-held true s lf = (initial-rnd1 c (data_of cmd) fresh lf, initial-key c (data_of cmd) fresh s.keys)
  reply-held false s lf = (refl, refl)

  next-held : (t : Bool) → eqb (verdict_on i (key_length_of c) cmd fresh room).status 0x9000 ≡ t → Sound c → Held (cond t (reply_to c cmd fresh).session c.session)
  unfolding reply_to Held
  next-held true e s = reply-held (eqb (ins_of (frame_of cmd)) initial_ins) s (passed i (key_length_of c) (length cmd) (frame_of cmd) fresh room (eqb-true _ _ e)).fresh-long
  next-held false e s = (s.stored.rnd1, s.stored.key)

  sound-kept : Sound c → Sound (outcome c i cmd fresh room).card
  unfolding Held
  sound-kept s =
      let h = next-held (eqb (verdict_on i (key_length_of c) cmd fresh room).status 0x9000) refl s in
      rw card-kept
      (record {
        sets = s.sets;
        keys = s.keys;
        modes = s.modes;
        div = s.div;
        stored = record { shill = s.stored.shill; rnd1 = h.0; key = h.1 };
        size = s.size;
      })

-- T-07: and a load of key sets
sound-sets : (c : Card) (sets : List KeySet) → Sound c → Sound (sets_loaded c sets).card
sound-sets c sets s = after-by (λ (k : Card). Sound k) c sets by s
  where
    by : takes_sets c sets ≡ true → Sound (with_sets c (table_of sets))
    by e =
        let t = new-table c sets e in
        record {
          sets = t.sets-long;
          keys = t.fa-long;
          modes = s.modes;
          div = s.div;
          stored = record { shill = s.stored.shill; rnd1 = s.stored.rnd1; key = s.stored.key };
          size = s.size;
        }

-- a place keeps what the theorems ask of a card, and L and reply size
sound-next : (c : Card) (p : Place) → Sound c → Sound (next c p)
sound-next c (command x) s = sound-kept c x.interface x.command x.fresh x.room s
sound-next c (key_sets k) s = sound-sets c k s

length-kept : (c : Card) (p : Place) → key_length_of (next c p) ≡ key_length_of c
length-kept c (command x) = ap key_length_of (card-kept c x.interface x.command x.fresh x.room)
length-kept c (key_sets k) = ap key_length_of (only-table c k)

size-kept : (c : Card) (p : Place) → (next c p).reply_size ≡ c.reply_size
size-kept c (command x) = ap (λ (e : Card). e.reply_size) (card-kept c x.interface x.command x.fresh x.room)
size-kept c (key_sets k) = ap (λ (e : Card). e.reply_size) (only-table c k)

place-shape : (c : Card) (p : Place) → Sound c → Option.map (λ o. shape_of o.answer) (outcome_at c p) ≡ formulas_at (key_length_of c) c.reply_size p
place-shape c (command x) s = ap answered (one-shape c x.interface x.command x.fresh x.room s)
place-shape c (key_sets k) s = refl

-- DEMAND 3, the formulas: a list on a card that is sound gives at each place what the formulas of frame, length, L and reply size say
pub list-formulas : (ps : List Place) (c : Card) → Sound c → map (Option.map (λ o. shape_of o.answer)) (run c ps) ≡ map (formulas_at (key_length_of c) c.reply_size) ps
unfolding run
list-formulas [] c s = refl
list-formulas (p ∷ ps) c s =
    ap₂ (λ (x : Option Shape) (l : List (Option Shape)). x ∷ l) (place-shape c p s)
    (list-formulas ps (next c p) (sound-next c p s) ∙ ap₂ (λ (l b : ℕ). map (formulas_at l b) ps) (length-kept c p) (size-kept c p))

-- the session of a reply, from the load and the call
session-initial : (c : Card) (s : Session) (d fresh : List ℕ) (t : Bool) → accepts_initial c d ≡ t →
    (initial_reply (with_session c s) d fresh).session ≡ cond t (initial_reply c d fresh).session no_session
unfolding initial_reply slot_of initial_steps
session-initial c s d fresh true e = rw e
session-initial c s d fresh false e = rw e

both_cond : (a b : Bool) (s : Session) → cond a (cond b s no_session) no_session ≡ cond (a && b) s no_session
both_cond true b s = refl
both_cond false b s = refl

-- a card that is c but for its state
abbrev pub LoadedAs : Card → Card → Type 0
LoadedAs c k = k ≡ with_tries (with_session c k.session) k.tries

module _ (c k : Card) (q : LoadedAs c k) (x : Call) where
  d : List ℕ
  d = data_of x.command

  ins-session : (t : Bool) → (cond t (initial_reply (with_session c k.session) d x.fresh) (final_reply (with_session c k.session) d x.fresh)).session
      ≡ cond t (cond (accepts_initial c d) (initial_reply c d x.fresh).session no_session) no_session
  unfolding final_reply
  ins-session true = session-initial c k.session d x.fresh (accepts_initial c d) refl
  ins-session false = refl

  next-cases : (t : Bool) →
      cond t (reply_to (with_session c k.session) x.command x.fresh).session k.session
      ≡ cond (not t) k.session (cond (is_initial x && accepts_initial c d) (initial_reply c d x.fresh).session no_session)
  unfolding reply_to d
  next-cases true = ins-session (is_initial x) ∙ both_cond (is_initial x) (accepts_initial c d) (initial_reply c d x.fresh).session
  next-cases false = refl

  length-is : key_length_of k ≡ key_length_of c
  length-is = ap key_length_of q

  reply-is : reply_to k x.command x.fresh ≡ reply_to (with_session c k.session) x.command x.fresh
  reply-is = ap (λ (e : Card). reply_to e x.command x.fresh) q ∙ reply-unseen (with_session c k.session) k.tries x.command x.fresh

  -- a call leaves the session that load, session and call give
  call-session : (outcome_of k x).card.session ≡ next_session c k.session x
  unfolding next_session d
  call-session =
      ap (λ (e : Card). e.session) (card-kept k x.interface x.command x.fresh x.room)
      ∙ ap₂ (λ (n : ℕ) (r : Reply). cond (eqb (verdict_on x.interface n x.command x.fresh x.room).status 0x9000) r.session k.session) length-is reply-is
      ∙ next-cases (eqb (verdict_on x.interface (key_length_of c) x.command x.fresh x.room).status 0x9000)

  then : Session
  then = cond (eqb (verdict_on x.interface (key_length_of k) x.command x.fresh x.room).status 0x9000) (reply_to k x.command x.fresh).session k.session

  tried : Tries
  tried = tries_after x.interface (refused_try k x.interface x.command x.fresh x.room) k.tries

  -- and all that the load gave
  call-loaded : LoadedAs c (outcome_of k x).card
  unfolding then tried
  call-loaded =
      let kept = card-kept k x.interface x.command x.fresh x.room in
      kept ∙ ap (λ (e : Card). with_tries (with_session e then) tried) q ∙ sym (ap (λ (e : Card). with_tries (with_session c e.session) e.tries) kept)

  sum-cases : (t : Bool) (u : Tries) →
      (cond {A = Outcome} t (done k u (reply_to k x.command x.fresh)) (undone k (verdict_on x.interface (key_length_of k) x.command x.fresh x.room))).sum
      ≡ work_sum (cond (not t) [] (reply_to k x.command x.fresh).steps)
  sum-cases true u = refl
  sum-cases false u = refl

  -- the work sum is that of the steps that load, session and call give
  call-sum : (outcome_of k x).sum ≡ work_sum (steps_of c k.session x)
  unfolding outcome steps_of
  call-sum =
      sum-cases (eqb (verdict_on x.interface (key_length_of k) x.command x.fresh x.room).status 0x9000) _
      ∙ ap₂ (λ (n : ℕ) (r : Reply). work_sum (cond (is_declined n x) [] r.steps)) length-is reply-is

-- T-07: a load of key sets keeps the state, and changes the rest as it does of the load
module _ (c k : Card) (q : LoadedAs c k) (sets : List KeySet) where
  sets-loaded : LoadedAs (sets_loaded c sets).card (sets_loaded k sets).card
  sets-loaded =
      ap (λ (e : Card). (sets_loaded e sets).card) q
      ∙ in-state c k.session k.tries sets
      ∙ sym (ap (λ (e : Card). with_tries (with_session (sets_loaded c sets).card e.session) e.tries) (only-table k sets))

-- a place
module _ (c k : Card) (q : LoadedAs c k) where
  next-loaded : (p : Place) → LoadedAs (load_at c p) (next k p)
  next-loaded (command x) = call-loaded c k q x
  next-loaded (key_sets s) = sets-loaded c k q s

  next-session : (p : Place) → (next k p).session ≡ session_at c k.session p
  next-session (command x) = call-session c k q x
  next-session (key_sets s) = ap (λ (e : Card). e.session) (only-table k s)

  -- DEMAND 3, the work sum: that of the steps that load, session and call give; a load of key sets has none
  pub place-sum : (p : Place) → Option.map (λ o. o.sum) (outcome_at k p) ≡ Option.map work_sum (steps_at c k.session p)
  place-sum (command x) = ap answered (call-sum c k q x)
  place-sum (key_sets s) = refl

-- the card behind a list is the load's, as the list left it, but for its state, with the session after the list
pub after-loaded : (c k : Card) → LoadedAs c k → (ps : List Place) → LoadedAs (load_after c ps) (card_after k ps)
unfolding card_after load_after
after-loaded c k q [] = q
after-loaded c k q (p ∷ ps) = after-loaded (load_at c p) (next k p) (next-loaded c k q p) ps

pub session-after : (c k : Card) → LoadedAs c k → (ps : List Place) → (card_after k ps).session ≡ session_after c k.session ps
unfolding card_after session_after
session-after c k q [] = refl
session-after c k q (p ∷ ps) =
    session-after (load_at c p) (next k p) (next-loaded c k q p) ps ∙ ap (λ (s : Session). session_after (load_at c p) s ps) (next-session c k q p)

-- each place of a list: the places behind ps run on the card that these left
run-append : (c : Card) (ps qs : List Place) → run c (ps ++ qs) ≡ run c ps ++ run (card_after c ps) qs
unfolding run card_after
run-append c [] qs = refl
run-append c (p ∷ ps) qs = ap (λ (l : List (Option Outcome)). outcome_at c p ∷ l) (run-append (next c p) ps qs)

length_run : (c : Card) (ps : List Place) → length (run c ps) ≡ length ps
unfolding run
length_run c [] = refl
length_run c (p ∷ ps) = ap suc (length_run (next c p) ps)

-- DEMAND 3, a place: what is handed back at p behind the places ps is that of the card that these left
pub place : (c : Card) (ps qs : List Place) (p : Place) (o : Option Outcome) → get_or (run c (ps ++ (p ∷ qs))) (length ps) o ≡ outcome_at (card_after c ps) p
unfolding run
place c ps qs p o =
    ap (λ (l : List (Option Outcome)). get_or l (length ps) o) (run-append c ps (p ∷ qs))
    ∙ get_or_at (run c ps) (outcome_at (card_after c ps) p) (run (next (card_after c ps) p) qs) o (length ps) (length_run c ps)

-- two lists that agree
formulas-alike : (l b : ℕ) {x y : Call} → Alike x y → formulas_of l b x ≡ formulas_of l b y
formulas-alike l b {x} {y} a = rw (a.interfaces, a.frames, a.lengths, a.fresh, a.rooms)

place-alike : (l b : ℕ) {p q : Place} → AlikeAt p q → formulas_at l b p ≡ formulas_at l b q
place-alike l b (calls a) = ap answered (formulas-alike l b a)
place-alike l b loads = refl

all_alike : (l b : ℕ) {ps qs : List Place} → AllAlike ps qs → map (formulas_at l b) ps ≡ map (formulas_at l b) qs
all_alike l b none = refl
all_alike l b (more a r) = ap₂ (λ (x : Option Shape) (t : List (Option Shape)). x ∷ t) (place-alike l b a) (all_alike l b r)

-- DEMAND 3, two lists on two cards: numbers, statuses, counts and lengths are equal at each place
pub lists-alike : {ps qs : List Place} (c e : Card) → Sound c → Sound e → Agree c e → AllAlike ps qs →
    map (Option.map (λ o. shape_of o.answer)) (run c ps) ≡ map (Option.map (λ o. shape_of o.answer)) (run e qs)
lists-alike {ps} {qs} c e sc se g a =
    list-formulas ps c sc ∙ ap₂ (λ (l b : ℕ). map (formulas_at l b) ps) g.key_lengths g.size ∙ all_alike (key_length_of e) e.reply_size a ∙ sym (list-formulas qs e se)

-- what a refusal answers, of L, shill keys, reply size and fresh bytes alone
refused_final : List ℕ → ℕ → List ℕ → List ℕ
refused_final key b fresh = encrypted (aes_under key) zeros b (over (replicate 96 0) 0 (part fresh 0 (16 * b)))

final-refused : (c : Card) (d fresh : List ℕ) → accepts_final c d ≡ false → (final_reply c d fresh).bytes ≡ refused_final (held (key_length_of c) c.shill_key) (size_of c) fresh
unfolding final_reply final_bytes reply_key reply_buffer reply_text refused_final
final-refused c d fresh e = rw e

initial-refused : (c : Card) (d fresh : List ℕ) → accepts_initial c d ≡ false → initial_reply c d fresh ≡ refused_initial c d fresh
unfolding initial_reply
initial-refused c d fresh e = rw e

refused_bytes : ℕ → Bool → List ℕ → ℕ → List ℕ → List ℕ
refused_bytes l t key b fresh = cond t (block_of l fresh (part fresh 0 (str1_length l))) (refused_final (held l key) b fresh)

ins-refused : (c : Card) (d fresh : List ℕ) (t : Bool) → cond t (accepts_initial c d) (accepts_final c d) ≡ false →
    ((cond t (initial_reply c d fresh) (final_reply c d fresh)).bytes ≡ refused_bytes (key_length_of c) t c.shill_key (size_of c) fresh)
    × ((cond t (initial_reply c d fresh) (final_reply c d fresh)).handle ≡ cond t c.shill_handle 0)
unfolding refused_bytes final_reply
ins-refused c d fresh true e = (ap (λ (r : Reply). r.bytes) (initial-refused c d fresh e), ap (λ (r : Reply). r.handle) (initial-refused c d fresh e))
ins-refused c d fresh false e = (final-refused c d fresh e, refl)

-- the answer bytes and the handle of a call that is not accepted
handle-cases : (c : Card) (u : Tries) (r : Reply) (v : Verdict) (t : Bool) →
    (cond {A = Outcome} t (done c u r) (undone c v)).answer.handle ≡ cond t r.handle 0
handle-cases c u r v true = refl
handle-cases c u r v false = refl

module _ (c : Card) (x : Call) where
  ok : Bool
  ok = eqb (verdict_on x.interface (key_length_of c) x.command x.fresh x.room).status 0x9000

  bytes-cases : (t : Bool) → (not (not t) && cond (is_initial x) (accepts_initial c (data_of x.command)) (accepts_final c (data_of x.command))) ≡ false →
      (cond t (reply_to c x.command x.fresh).bytes [] ≡ cond t (refused_bytes (key_length_of c) (is_initial x) c.shill_key (size_of c) x.fresh) [])
      × (cond t (reply_to c x.command x.fresh).handle 0 ≡ cond t (cond (is_initial x) c.shill_handle 0) 0)
  unfolding reply_to
  bytes-cases true e = ins-refused c (data_of x.command) x.fresh (is_initial x) e
  bytes-cases false e = (refl, refl)

  refused-bytes : accepted c x ≡ false → bytes_of c x ≡ cond ok (refused_bytes (key_length_of c) (is_initial x) c.shill_key (size_of c) x.fresh) []
  unfolding accepted answer_bytes ok
  refused-bytes e = (bytes-cases ok e).0

  refused-handle : accepted c x ≡ false → (outcome_of c x).answer.handle ≡ cond ok (cond (is_initial x) c.shill_handle 0) 0
  unfolding accepted outcome ok
  refused-handle e = handle-cases c _ (reply_to c x.command x.fresh) (verdict_on x.interface (key_length_of c) x.command x.fresh x.room) ok ∙ (bytes-cases ok e).1

same_answer : (c e : Card) (x y : Call) → Agree c e → Alike x y → accepted c x ≡ false → accepted e y ≡ false → SameAnswer c e x y
unfolding ok size_of
same_answer c e x y g a n m =
    record {
      bytes = refused-bytes c x n ∙ rw (a.interfaces, a.frames, a.lengths, a.fresh, a.rooms, g.key_lengths, g.key, g.size) (sym (refused-bytes e y m));
      handle = refused-handle c x n ∙ rw (a.interfaces, a.frames, a.lengths, a.fresh, a.rooms, g.key_lengths, g.handle) (sym (refused-handle e y m));
    }

-- what two cards agree in, a place keeps
agree-next : (c : Card) (p : Place) → Agree (next c p) c
agree-next c (command x) = rw (card-kept c x.interface x.command x.fresh x.room) (record { key_lengths = refl; key = refl; handle = refl; size = refl })
agree-next c (key_sets s) = rw (only-table c s) (record { key_lengths = refl; key = refl; handle = refl; size = refl })

agree-kept : (c e : Card) (p q : Place) → Agree c e → Agree (next c p) (next e q)
agree-kept c e p q g =
    let a = agree-next c p in
    let b = agree-next e q in
    record {
      key_lengths = a.key_lengths ∙ g.key_lengths ∙ sym b.key_lengths;
      key = a.key ∙ g.key ∙ sym b.key;
      handle = a.handle ∙ g.handle ∙ sym b.handle;
      size = a.size ∙ g.size ∙ sym b.size;
    }

same_at : (c e : Card) {p q : Place} → Agree c e → AlikeAt p q → SameAt c e p q
same_at c e g (calls {x} {y} a) = same_answer c e x y g a
same_at c e g loads = tt

-- DEMAND 3, two lists on two cards: where neither accepts, the same answer bytes and key handle, at each place
pub lists-indistinct : {ps qs : List Place} (c e : Card) → Agree c e → AllAlike ps qs → Indistinct c e ps qs
unfolding Indistinct
lists-indistinct c e g none = tt
lists-indistinct c e g (more {p} {q} a r) = (same_at c e g a, lists-indistinct (next c p) (next e q) (agree-kept c e p q g) r)
