-- `text_of` meets its contract: the part is as long as STR1, and ends where the block does. Assumes nothing.
use Prim.Native.Nat.{ℕ, ◌-◌}
use mathlib.Core.Path.{ap, ◌∙◌}
use Rattle.octets.specs.Lists.{part}
use Rattle.plaid_types.specs.Keys.{str1_length}
use Rattle.std.proofs.Common.{rules}
use Rattle.reader_open.proofs.text_of.Goals as goal

pub overflow_sub-n : goal.overflow_sub-n
unfolding str1_length
overflow_sub-n c = search rules

pub part_of-requires : goal.part_of-requires
unfolding str1_length
part_of-requires c = search rules

pub returns : goal.returns
returns c = c.part_of.ensures ∙ ap (λ (n : ℕ). part c.args.b.now (256 - n) n) c.str1_length-n.ensures
