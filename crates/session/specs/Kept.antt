-- What every list keeps true of a card that a load stocked: an open session has KeySetID and FAKey of a set that the card held at the session's
-- initial command, whatever was loaded since (T-07). Assumes nothing.
use Rattle.std.specs.Prelude.{◌≡◌, Bool, true, false, cond, ◌&&◌, not, List, [], ◌∷◌, ◌++◌, ℕ, eqb, length, get_or}
use Rattle.std.proofs.Math.Path.{refl}
use Rattle.std.proofs.Common.{sym, ap, ◌∙◌, subst, true≢false, append_assoc, append-nil, eqb-true}
use Rattle.octets.specs.Lists.{part}
use Rattle.octets.specs.Same.{split-and}
use Rattle.frame.specs.Frame.{frame_of, data_of}
use Rattle.frame.specs.Laws.{passed}
use Rattle.plaid_types.specs.Keys.{key_length_of}
use Rattle.plaid_types.specs.Cards.{no_session, no_set}
use Rattle.plaid_types.specs.declared.KeySetSlot.{KeySetSlot}
use Rattle.plaid_types.specs.declared.Session.{Session}
use Rattle.plaid_types.specs.declared.Card.{Card}
use Rattle.load.proofs.Laws.{Stocked, set_at}
use Rattle.key_change.proofs.Laws.{stocked-after}
use Rattle.initial.specs.Initial.{slot_of, accepts_initial, opened_with, accepted_initial, refused_initial, initial_reply}
use Rattle.initial.proofs.Laws.{initial-rnd1, initial-key}
use Rattle.card.specs.Command.{verdict_on}
use Rattle.card.specs.Lists.{Call, Place, command, key_sets, is_initial, next_session, load_at, session_at, load_after, session_after}

-- the load behind one list and then another
pub load-append : (c : Card) (ps qs : List Place) → load_after c (ps ++ qs) ≡ load_after (load_after c ps) qs
unfolding load_after
load-append c [] qs = refl
load-append c (p ∷ ps) qs = load-append (load_at c p) ps qs

-- it is stocked
stocked-at : (c : Card) (p : Place) → Stocked c → Stocked (load_at c p)
stocked-at c (command x) g = g
stocked-at c (key_sets s) g = stocked-after c s g

pub load-stocked : (c : Card) → Stocked c → (ps : List Place) → Stocked (load_after c ps)
unfolding load_after
load-stocked c g [] = g
load-stocked c g (p ∷ ps) = load-stocked (load_at c p) (stocked-at c p g) ps

-- the slot of the load c that an initial command of data d finds
abbrev pub slot_for : Card → List ℕ → KeySetSlot
slot_for c d = set_at c (slot_of c d)

-- a session was opened by an accepted initial command of the list: its KeySetID and FAKey are of the slot that this found in the table there, behind
-- the places `past`, and RND1 is of its fresh bytes
pub record OpenedBy (c : Card) (ps : List Place) (s : Session) : Type 0 where
  pub past : List Place
  pub opener : Call
  pub rest : List Place
  pub is : ps ≡ past ++ (command opener ∷ rest)
  pub accepts : accepts_initial (load_after c past) (data_of opener.command) ≡ true
  pub session : s ≡ opened_with (slot_for (load_after c past) (data_of opener.command)) (part opener.fresh 0 (key_length_of (load_after c past)))

-- a session that a card can have behind a list: RND1 and FAKey are held in 32 bytes each, and where it is open a command of the list opened it
pub record Lawful (c : Card) (ps : List Place) (s : Session) : Type 0 where
  pub rnd1 : length s.rnd1 ≡ 32
  pub key : length s.fa_key ≡ 32
  pub opened : s.opened ≡ true → OpenedBy c ps s

pub none-lawful : (c : Card) (ps : List Place) → Lawful c ps no_session
none-lawful c ps = record { rnd1 = refl; key = refl; opened = λ e. absurd (true≢false (sym e)) }

-- and behind a longer one
longer : {c : Card} {ps : List Place} {s : Session} (qs : List Place) → OpenedBy c ps s → OpenedBy c (ps ++ qs) s
longer {ps = ps} qs o =
    record {
      past = o.past;
      opener = o.opener;
      rest = o.rest ++ qs;
      is = ap (λ (l : List Place). l ++ qs) o.is ∙ append_assoc o.past (command o.opener ∷ o.rest) qs;
      accepts = o.accepts;
      session = o.session;
    }

lawful-longer : {c : Card} {ps : List Place} {s : Session} (qs : List Place) → Lawful c ps s → Lawful c (ps ++ qs) s
lawful-longer qs l = record { rnd1 = l.rnd1; key = l.key; opened = λ e. longer qs (l.opened e) }

-- the session of an accepted initial command
reply-session : (c : Card) (d fresh : List ℕ) (t : Bool) → t ≡ true →
    (cond t (accepted_initial c d fresh (get_or c.sets (slot_of c d) no_set)) (refused_initial c d fresh)).session ≡ opened_with (slot_for c d) (part fresh 0 (key_length_of c))
reply-session c d fresh true q = refl
reply-session c d fresh false q = absurd (true≢false (sym q))

module _ (c : Card) (g : Stocked c) (ps : List Place) (s : Session) (l : Lawful c ps s) where
  k : Card
  k = load_after c ps

  module _ (x : Call) where
    d : List ℕ
    d = data_of x.command

    initial-lawful : length x.fresh ≡ 253 → accepts_initial k d ≡ true → Lawful c (ps ++ (command x ∷ [])) (initial_reply k d x.fresh).session
    unfolding initial_reply k d
    initial-lawful lf a =
        record {
          rnd1 = initial-rnd1 k d x.fresh lf;
          key = initial-key k d x.fresh (load-stocked c g ps).fa-long;
          opened = λ e. record { past = ps; opener = x; rest = []; is = refl; accepts = a; session = reply-session k d x.fresh (accepts_initial k d) a };
        }

    accepts-by : (t : Bool) → (is_initial x && accepts_initial k d) ≡ t → length x.fresh ≡ 253 →
        Lawful c (ps ++ (command x ∷ [])) (cond t (initial_reply k d x.fresh).session no_session)
    accepts-by true e lf = initial-lawful lf (split-and (is_initial x) (accepts_initial k d) e).1
    accepts-by false e lf = none-lawful c (ps ++ (command x ∷ []))

    next-by : (t : Bool) → eqb (verdict_on x.interface (key_length_of k) x.command x.fresh x.room).status 0x9000 ≡ t →
        Lawful c (ps ++ (command x ∷ [])) (cond (not t) s (cond (is_initial x && accepts_initial k d) (initial_reply k d x.fresh).session no_session))
    next-by true e =
        accepts-by (is_initial x && accepts_initial k d) refl
        (passed x.interface (key_length_of k) (length x.command) (frame_of x.command) x.fresh x.room (eqb-true _ _ e)).fresh-long
    next-by false e = lawful-longer (command x ∷ []) l

  next-lawful : (p : Place) → Lawful c (ps ++ (p ∷ [])) (session_at k s p)
  unfolding next_session d
  next-lawful (command x) = next-by x (eqb (verdict_on x.interface (key_length_of k) x.command x.fresh x.room).status 0x9000) refl
  next-lawful (key_sets t) = lawful-longer (key_sets t ∷ []) l

-- every list leaves a lawful session
pub after-lawful : (c : Card) → Stocked c → (ps : List Place) (s : Session) → Lawful c ps s → (qs : List Place) → Lawful c (ps ++ qs) (session_after (load_after c ps) s qs)
unfolding session_after load_after k
after-lawful c g ps s l [] = subst (λ (t : List Place). Lawful c t s) (sym (append-nil ps)) l
after-lawful c g ps s l (p ∷ qs) =
    let k : Card = load_after c ps in
    let e = after-lawful c g (ps ++ (p ∷ [])) (session_at k s p) (next-lawful c g ps s l p) qs in
    subst (λ (t : List Place). Lawful c t (session_after (load_at k p) (session_at k s p) qs)) (append_assoc ps (p ∷ []) qs)
    (subst (λ (m : Card). Lawful c ((ps ++ (p ∷ [])) ++ qs) (session_after m (session_at k s p) qs)) (load-append c ps (p ∷ [])) e)
