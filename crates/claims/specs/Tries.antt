-- T-06, FAILED TRIES FOR EACH INTERFACE, one claim, of the card that a successful load returned and every list on it. `failed-tries` of
-- `TriesHold.antt` is its one theorem.
use Rattle.std.specs.Prelude.{◌≡◌, true, List, ℕ}
use Rattle.plaid_types.specs.Tries.{is_interface, no_tries, holding, tries_on}
use Rattle.plaid_types.specs.declared.Tries.{Tries}
use Rattle.card.specs.Lists.{Call, outcome_of, Place, card_after, refusals, Unseen}
use Rattle.claims.specs.Load.{Load, card_of, card_with}

pub record FailedTries (l : Load) : Type 0 where
  -- "from 0 on a new card"
  pub new : (card_of l).tries ≡ no_tries
  -- "The card counts refused final commands separately for the two .. and holds at 65,535": after a list, the count of interface j
  pub counted : (j : ℕ) → is_interface j ≡ true → (ps : List Place) → tries_on j (card_after (card_of l) ps).tries ≡ holding (refusals j (card_of l) ps)
  -- "A try on one interface never moves the other's count": behind any calls, a call on another interface, or on none, keeps the count of j
  pub apart :
      (j : ℕ) → is_interface j ≡ true → (ps : List Place) (x : Call) → (x.interface ≡ j → ⊥) →
      tries_on j (outcome_of (card_after (card_of l) ps) x).card.tries ≡ tries_on j (card_after (card_of l) ps).tries
  -- "nothing sent over the air depends on either": the same card but for its tries gives the same answers, bytes and all, for every list
  pub unseen : (t u : Tries) (ps : List Place) → Unseen (card_with l t) (card_with l u) ps

-- the claim
abbrev pub FailedTriesClaim : Type 0
FailedTriesClaim = (l : Load) → FailedTries l
