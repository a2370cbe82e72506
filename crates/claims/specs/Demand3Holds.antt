-- Demand 3 holds. Assumes nothing.
use Rattle.std.specs.Prelude.{refl, map, ℕ}
use Rattle.std.proofs.Common.{ap, ◌∙◌}
use Rattle.std.proofs.Math.Option
use Rattle.work.specs.Steps.{work_sum}
use Rattle.plaid_types.specs.declared.Session.{Session}
use Rattle.plaid_types.specs.declared.Tries.{Tries}
use Rattle.plaid_types.specs.declared.Outcome.{Outcome}
use Rattle.card.specs.Lists.{card_after, load_after, session_after, steps_at, formulas_at, Agree}
use Rattle.card.specs.Demand3.{Sound, list-formulas, place, place-sum, after-loaded, session-after, lists-alike, lists-indistinct}
use Rattle.claims.specs.Load.{Load, card_of, card_with}
use Rattle.claims.specs.Loaded.{is-a-load, sound, sound-state, length-is}
use Rattle.claims.specs.Demand3.{Demand3Claim}

sound-with : (l : Load) (t : Tries) → Sound (card_with l t)
sound-with l t = sound-state l (card_of l).session t (sound l).stored.rnd1 (sound l).stored.key

agree-with : (l m : Load) (t u : Tries) → Agree (card_of l) (card_of m) → Agree (card_with l t) (card_with m u)
agree-with l m t u g = record { key_lengths = g.key_lengths; key = g.key; handle = g.handle; size = g.size }

pub demand-3 : Demand3Claim
demand-3 l =
    record {
      formulas = λ t ps. list-formulas ps (card_with l t) (sound-with l t) ∙ ap (λ (n : ℕ). map (formulas_at n (card_of l).reply_size) ps) (length-is l);
      sums =
          λ t ps qs p o. ap (Option.map (λ (r : Outcome). r.sum)) (place (card_with l t) ps qs p o)
          ∙ place-sum (load_after (card_of l) ps) (card_after (card_with l t) ps) (after-loaded (card_of l) (card_with l t) refl ps) p
          ∙ ap (λ (s : Session). Option.map work_sum (steps_at (load_after (card_of l) ps) s p))
          (session-after (card_of l) (card_with l t) refl ps ∙ ap (λ (s : Session). session_after (card_of l) s ps) (is-a-load l).no-session);
      alike = λ m t u g a. lists-alike (card_with l t) (card_with m u) (sound-with l t) (sound-with m u) (agree-with l m t u g) a;
      indistinct = λ m t u g a. lists-indistinct (card_with l t) (card_with m u) (agree-with l m t u g) a;
    }
