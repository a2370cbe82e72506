-- `plaid_types::str1_length` meets its contract: the sum is the definition's. Assumes nothing.
use mathlib.Core.Path.{refl}
use Rattle.plaid_types.specs.Keys.{str1_length}
use Rattle.plaid_types.proofs.str1_length.Goals as goal

pub returns : goal.returns
unfolding str1_length
returns c = refl
