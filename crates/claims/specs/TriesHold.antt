-- T-06's claim holds. Assumes nothing.
use Rattle.std.specs.Prelude.{◌≡◌, refl, true, ℕ, ◌+◌}
use Rattle.std.proofs.Common.{ap, ◌∙◌, arith}
use Rattle.plaid_types.specs.Tries.{is_interface, no_tries, holding, tries_on}
use Rattle.plaid_types.specs.TriesLaws.{each-interface}
use Rattle.card.specs.Lists.{card_after, refusals}
use Rattle.card.specs.Tried.{list-tries, list-unseen, other-kept}
use Rattle.claims.specs.Load.{card_of, card_with}
use Rattle.claims.specs.Loaded.{is-a-load}
use Rattle.claims.specs.Tries.{FailedTriesClaim}

pub failed-tries : FailedTriesClaim
failed-tries l =
    let none : (j : ℕ) → is_interface j ≡ true → tries_on j (card_of l).tries ≡ 0 =
    λ j h. ap (tries_on j) (is-a-load l).no-tries ∙ each-interface (λ (m : ℕ). tries_on m no_tries ≡ 0) refl refl j h in
    record {
      new = (is-a-load l).no-tries;
      counted =
          λ j h ps. list-tries j h (card_of l) (omega (arith, none j h)) ps
          ∙ ap (λ (n : ℕ). holding (n + refusals j (card_of l) ps)) (none j h)
          ∙ ap holding (omega arith);
      apart = λ j h ps x n. other-kept (card_after (card_of l) ps) x j h n;
      unseen = λ t u ps. list-unseen (card_with l t) (card_with l u) refl ps;
    }
