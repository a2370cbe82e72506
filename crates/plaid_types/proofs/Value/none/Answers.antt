-- `plaid_types::Value::none` meets its contract: by `refl`, so that a refusal says what differs. Assumes nothing.
use mathlib.Core.Path.{refl}
use Rattle.plaid_types.proofs.Value.none.Goals as goal

pub returns : goal.returns
returns c = refl
