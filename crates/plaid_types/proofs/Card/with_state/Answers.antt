-- `plaid_types::Card::with_state` meets its contract: by `refl`, so that a refusal says what differs. Assumes nothing.
use mathlib.Core.Path.{refl}
use Rattle.plaid_types.proofs.Card.with_state.Goals as goal

pub returns : goal.returns
returns c = refl
