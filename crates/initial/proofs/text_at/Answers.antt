-- `initial::text_at` meets its contract. Assumes nothing.
use Rattle.plaid_types.specs.Keys.{str1_length}
use Rattle.std.proofs.Common.{rules}
use Rattle.initial.proofs.text_at.Goals as goal

pub overflow_sub-result : goal.overflow_sub-result
unfolding str1_length
overflow_sub-result c = search rules
