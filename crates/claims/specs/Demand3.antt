-- DEMAND 3, one claim: "For every list of commands from a newly loaded card, at every place: length, status and the five counts equal document 01's
-- formulas of frame, length and reply size; the work sum is the one document 01 defines; and two such lists on two such cards that agree where 01
-- says are alike in all that it says." `demand-3` of `Demand3Holds.antt` is its one theorem. T-06: the calls name interfaces, and every part of the
-- claim is of a card with any failed tries; a newly loaded one has none (`new` of `Tries.antt`). T-07: "A list may now contain loads, without answer or
-- steps, in two lists compared at equal places."
use Rattle.std.specs.Prelude.{◌≡◌, List, ◌∷◌, ◌++◌, map, length, get_or}
use Rattle.std.proofs.Math.Option
use Rattle.std.proofs.Math.Option.{Option}
use Rattle.work.specs.Steps.{work_sum}
use Rattle.plaid_types.specs.Cards.{no_session}
use Rattle.plaid_types.specs.declared.Tries.{Tries}
use Rattle.plaid_types.specs.declared.Outcome.{Outcome}
use Rattle.card.specs.Lists.{Place, Shape, run, load_after, session_after, steps_at, shape_of, formulas_at, Agree, AllAlike, Indistinct}
use Rattle.claims.specs.Load.{Load, card_of, card_with}

-- number, status, counts and answer length at each place of a list on the card that a load returned, with the failed tries t; none at a load of key
-- sets
abbrev pub shapes : Load → Tries → List Place → List (Option Shape)
shapes l t ps = map (Option.map (λ o. shape_of o.answer)) (run (card_with l t) ps)

pub record Demand3 (l : Load) : Type 0 where
  -- "length, status and the five counts equal document 01's formulas of frame, length and reply size". T-04: L, "which demand 3's formulas take beside
  -- the reply size"
  pub formulas : (t : Tries) (ps : List Place) → shapes l t ps ≡ map (formulas_at l.given.key_length (card_of l).reply_size) ps
  -- "the work sum is the one document 01 defines": at the place p, behind the places ps, it is that of the steps which the load, by T-07 with the table
  -- there, the session there and the call give (o stands for what a list of outcomes has past its end)
  pub sums :
      (t : Tries) (ps qs : List Place) (p : Place) (o : Option Outcome)
      → Option.map (λ r. r.sum) (get_or (run (card_with l t) (ps ++ (p ∷ qs))) (length ps) o)
      ≡ Option.map work_sum (steps_at (load_after (card_of l) ps) (session_after (card_of l) no_session ps) p)
  -- "two such lists on two such cards": of another load m, where the cards agree in shill keys and reply size, and by T-04 in L ("cards compared share
  -- L"), and the lists, place by place, in frame, length, fresh bytes and output size, by T-06 in the interface, and by T-07 in where loads of key sets
  -- stand. Number, status, counts and length are alike at every place, from whatever failed tries
  pub alike : (m : Load) (t u : Tries) → Agree (card_of l) (card_of m) → {ps qs : List Place} → AllAlike ps qs → shapes l t ps ≡ shapes m u qs
  -- and where neither card accepts, the answer bytes and the key handle are too
  pub indistinct :
      (m : Load) (t u : Tries) → Agree (card_of l) (card_of m) → {ps qs : List Place} → AllAlike ps qs → Indistinct (card_with l t) (card_with m u) ps qs

-- the claim
abbrev pub Demand3Claim : Type 0
Demand3Claim = (l : Load) → Demand3 l
