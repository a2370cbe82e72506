-- Document 01, "Lists of commands", with T-04, T-06 and T-07 of document 02.
use Rattle.std.specs.Prelude.{Bool, false, cond, ◌&&◌, not, List, [], ◌∷◌, map, ◌≡◌, ℕ, ◌+◌, ◌*◌, ◌/◌, eqb, ltb, length}
use Rattle.std.proofs.Math.Option
use Rattle.std.proofs.Math.Option.{Option, some as answered, none as unanswered}
use Rattle.work.specs.Steps.{Step}
use Rattle.frame.specs.Frame.{frame_of, ins_of, lc_of, initial_ins, data_of}
use Rattle.frame.specs.Declines.{Verdict, verdict}
use Rattle.initial.specs.Initial.{accepts_initial, initial_reply}
use Rattle.final_command.specs.Final.{accepts_final}
use Rattle.plaid_types.specs.Keys.{key_length_of}
use Rattle.plaid_types.specs.Cards.{no_session, with_session, with_tries}
use Rattle.plaid_types.specs.declared.KeySet.{KeySet}
use Rattle.plaid_types.specs.declared.Session.{Session}
use Rattle.plaid_types.specs.declared.Card.{Card}
use Rattle.plaid_types.specs.declared.Answer.{Answer}
use Rattle.plaid_types.specs.declared.Outcome.{Outcome}
use Rattle.key_change.specs.KeyChange.{sets_loaded}
use Rattle.card.specs.Command.{reply_to, verdict_on, outcome, answer_bytes}

-- "A list gives each call its command bytes, fresh bytes and output size, whatever they are." T-06: "Each command call names its interface"
pub record Call : Type 0 where
  pub interface : ℕ
  pub command : List ℕ
  pub fresh : List ℕ
  pub room : ℕ

abbrev pub outcome_of : Card → Call → Outcome
outcome_of c x = outcome c x.interface x.command x.fresh x.room

abbrev pub bytes_of : Card → Call → List ℕ
bytes_of c x = answer_bytes c x.interface x.command x.fresh x.room

-- T-07: "A list may now contain loads": at each place a command call, or a load of the caller's list of key sets
pub data Place : Type 0 where
  command : Call → Place
  key_sets : List KeySet → Place

-- "without answer": what is handed back at a place
abbrev pub outcome_at : Card → Place → Option Outcome
outcome_at c (command x) = answered (outcome_of c x)
outcome_at c (key_sets s) = unanswered

-- the answer bytes at a place
abbrev pub bytes_at : Card → Place → List ℕ
bytes_at c (command x) = bytes_of c x
bytes_at c (key_sets s) = []

-- "Each call gets the card that the last one returned, and nothing else changes it in between.": the card behind a place
abbrev pub next : Card → Place → Card
next c (command x) = (outcome_of c x).card
next c (key_sets s) = (sets_loaded c s).card

unfoldable pub run : Card → List Place → List (Option Outcome)
run c [] = []
run c (p ∷ ps) = outcome_at c p ∷ run (next c p) ps

-- the card that the last of them returned
unfoldable pub card_after : Card → List Place → Card
card_after c [] = c
card_after c (p ∷ ps) = card_after (next c p) ps

-- "A command is declined by 8, 9, 10 or a fault of its frame", and by T-06 by 26, of a card with keys of l bytes
abbrev pub is_declined : ℕ → Call → Bool
is_declined l x = not (eqb (verdict_on x.interface l x.command x.fresh x.room).status 0x9000)

abbrev pub is_initial : Call → Bool
is_initial x = eqb (ins_of (frame_of x.command)) initial_ins

-- "none at first; an accepted initial command opens a new one; a refused one, and any final command not declined, leaves none;
-- a declined command keeps it": the session after a call, from the load c, the session s before it, and the call
unfoldable pub next_session : Card → Session → Call → Session
next_session c s x =
    cond (is_declined (key_length_of c) x) s
    (cond (is_initial x && accepts_initial c (data_of x.command)) (initial_reply c (data_of x.command) x.fresh).session no_session)

-- T-07: a load of key sets "changes only the table": the load as it stands behind a place, and the session there
abbrev pub load_at : Card → Place → Card
load_at c (command x) = c
load_at c (key_sets s) = (sets_loaded c s).card

abbrev pub session_at : Card → Session → Place → Session
session_at c s (command x) = next_session c s x
session_at c s (key_sets k) = s

unfoldable pub load_after : Card → List Place → Card
load_after c [] = c
load_after c (p ∷ ps) = load_after (load_at c p) ps

-- "The session at a place follows from the load and the earlier calls alone", and by T-07 from the earlier loads of key sets: the session after the
-- places ps
unfoldable pub session_after : Card → Session → List Place → Session
session_after c s [] = s
session_after c s (p ∷ ps) = session_after (load_at c p) (session_at c s p) ps

-- "With the load, that session and the call, the steps above give the work sum"; a declined command "makes no steps"
unfoldable pub steps_of : Card → Session → Call → List Step
steps_of c s x = cond (is_declined (key_length_of c) x) [] (reply_to (with_session c s) x.command x.fresh).steps

-- T-07: loads are "without .. steps"
abbrev pub steps_at : Card → Session → Place → Option (List Step)
steps_at c s (command x) = answered (steps_of c s x)
steps_at c s (key_sets k) = unanswered

-- number, status, the five counts and the answer length of a call
pub record Shape : Type 0 where
  pub number : ℕ
  pub status : ℕ
  pub comparisons : ℕ
  pub decipherments : ℕ
  pub encipherments : ℕ
  pub expansions : ℕ
  pub hash_blocks : ℕ
  pub size : ℕ

abbrev pub shape_of : Answer → Shape
shape_of a =
    record {
      number = a.number;
      status = a.status;
      comparisons = a.comparisons;
      decipherments = a.decipherments;
      encipherments = a.encipherments;
      expansions = a.expansions;
      hash_blocks = a.hash_blocks;
      size = a.length;
    }

-- "Initial: 8 times floor(Lc/4) comparisons, the rest 0. .. Answer length: 256 .. Status: 9000."
abbrev pub initial_shape : ℕ → Shape
initial_shape lc = record { number = 0; status = 0x9000; comparisons = 8 * (lc / 4); decipherments = 0; encipherments = 0; expansions = 0; hash_blocks = 0; size = 256 }

-- "Final: 16 comparisons, n decipherments, B + 1 encipherments, 3 expansions, 1 hash block. Answer length: .. 16B." T-04: "One encipherment more is
-- made for L over 16", and hash blocks are "2 for L = 32 and else 1"
abbrev pub final_shape : ℕ → ℕ → ℕ → Shape
final_shape l b lc =
    record {
      number = 0;
      status = 0x9000;
      comparisons = 16;
      decipherments = lc / 16;
      encipherments = b + cond (ltb 16 l) 2 1;
      expansions = 3;
      hash_blocks = cond (eqb l 32) 2 1;
      size = 16 * b;
    }

-- "its status, counts and length are those written under that decline"
abbrev pub decline_shape : Verdict → Shape
decline_shape v = record { number = v.number; status = v.status; comparisons = 0; decipherments = 0; encipherments = 0; expansions = 0; hash_blocks = 0; size = 0 }

-- document 01's formulas "of frame, length and reply size", and T-04: L, "which demand 3's formulas take beside the reply size". l is L, b is B, n the
-- length and f the frame; fresh bytes and output size decide 8 to 10, and by T-06 the interface i decides 26
unfoldable pub formulas : ℕ → ℕ → ℕ → ℕ → List ℕ → List ℕ → ℕ → Shape
formulas i l b n f fresh room =
    cond (eqb (verdict i l n f fresh room).status 0x9000)
    (cond (eqb (ins_of f) initial_ins) (initial_shape (lc_of f)) (final_shape l b (lc_of f)))
    (decline_shape (verdict i l n f fresh room))

abbrev pub formulas_of : ℕ → ℕ → Call → Shape
formulas_of l b x = formulas x.interface l b (length x.command) (frame_of x.command) x.fresh x.room

abbrev pub formulas_at : ℕ → ℕ → Place → Option Shape
formulas_at l b (command x) = answered (formulas_of l b x)
formulas_at l b (key_sets s) = unanswered

-- where two lists agree: at each place in frame, length, fresh bytes and output size, and by T-06 in the interface, "alike in two lists compared"; and
-- "Two lists compared are equally long."
pub record Alike (x y : Call) : Type 0 where
  pub interfaces : x.interface ≡ y.interface
  pub frames : frame_of x.command ≡ frame_of y.command
  pub lengths : length x.command ≡ length y.command
  pub fresh : x.fresh ≡ y.fresh
  pub rooms : x.room ≡ y.room

-- T-07: loads stand "in two lists compared at equal places", with whatever key sets
pub data AlikeAt : Place → Place → Type 0 where
  calls : {x y : Call} → Alike x y → AlikeAt (command x) (command y)
  loads : {s t : List KeySet} → AlikeAt (key_sets s) (key_sets t)

pub data AllAlike : List Place → List Place → Type 0 where
  none : AllAlike [] []
  more : {p q : Place} {ps qs : List Place} → AlikeAt p q → AllAlike ps qs → AllAlike (p ∷ ps) (q ∷ qs)

-- where two cards agree: "a shill AES key and a shill RSA handle, together its shill keys", and reply size. T-04: "cards compared share L". Of their
-- failed tries nothing is asked (T-06)
pub record Agree (c e : Card) : Type 0 where
  pub key_lengths : key_length_of c ≡ key_length_of e
  pub key : c.shill_key ≡ e.shill_key
  pub handle : c.shill_handle ≡ e.shill_handle
  pub size : c.reply_size ≡ e.reply_size

-- a call is accepted: not declined, and its command accepted by its rule. Every other call is refused or declined
unfoldable pub accepted : Card → Call → Bool
accepted c x = not (is_declined (key_length_of c) x) && cond (is_initial x) (accepts_initial c (data_of x.command)) (accepts_final c (data_of x.command))

-- T-06, "refused final commands": neither declined nor accepted
unfoldable pub refused_final : Card → Call → Bool
refused_final c x = not (is_initial x) && (not (is_declined (key_length_of c) x) && not (accepted c x))

-- at a place, on interface j
abbrev pub refused_at : ℕ → Card → Place → Bool
refused_at j c (command x) = refused_final c x && eqb x.interface j
refused_at j c (key_sets s) = false

-- how many of a list's places on the card c are refused final commands on interface j
unfoldable pub refusals : ℕ → Card → List Place → ℕ
refusals j c [] = 0
refusals j c (p ∷ ps) = cond (refused_at j c p) 1 0 + refusals j (next c p) ps

-- the same answer bytes and key handle
pub record SameAnswer (c e : Card) (x y : Call) : Type 0 where
  pub bytes : bytes_of c x ≡ bytes_of e y
  pub handle : (outcome_of c x).answer.handle ≡ (outcome_of e y).answer.handle

-- at a place at which neither card accepts, the same answer
abbrev pub SameAt : Card → Card → Place → Place → Type 0
SameAt c e (command x) (command y) = accepted c x ≡ false → accepted e y ≡ false → SameAnswer c e x y
SameAt c e (command x) (key_sets t) = Unit
SameAt c e (key_sets s) (command y) = Unit
SameAt c e (key_sets s) (key_sets t) = Unit

-- at each place
unfoldable pub Indistinct : Card → Card → List Place → List Place → Type 0
Indistinct c e [] qs = Unit
Indistinct c e (p ∷ ps) [] = Unit
Indistinct c e (p ∷ ps) (q ∷ qs) = SameAt c e p q × Indistinct (next c p) (next e q) ps qs

-- the answer bytes at each place of a list
unfoldable pub bytes_of_all : Card → List Place → List (List ℕ)
bytes_of_all c [] = []
bytes_of_all c (p ∷ ps) = bytes_at c p ∷ bytes_of_all (next c p) ps

-- the card m with other tries
abbrev pub ButTries : Card → Card → Type 0
ButTries k m = k ≡ with_tries m k.tries

-- what is alike of a list on two cards: all of each answer, its bytes and its work sum; and the cards afterwards, but for their tries
pub record Unseen (k m : Card) (ps : List Place) : Type 0 where
  pub answers : map (Option.map (λ o. o.answer)) (run k ps) ≡ map (Option.map (λ o. o.answer)) (run m ps)
  pub bytes : bytes_of_all k ps ≡ bytes_of_all m ps
  pub sums : map (Option.map (λ o. o.sum)) (run k ps) ≡ map (Option.map (λ o. o.sum)) (run m ps)
  pub cards : ButTries (card_after k ps) (card_after m ps)
