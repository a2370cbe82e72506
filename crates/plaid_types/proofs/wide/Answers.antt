-- `plaid_types::wide` meets its contract: what is written over zeros. Assumes nothing.
use Rattle.plaid_types.specs.Keys.{wide}
use Rattle.plaid_types.proofs.wide.Goals as goal

pub returns : goal.returns
unfolding wide
returns c = c.copy_at.ensures
