-- `blank_set` meets its contract, which names the record that it makes. Assumes nothing.
use Rattle.std.proofs.Common.{rules}
use Rattle.key_set_list.specs.First.{blank_set}
use Rattle.key_set_list.proofs.blank_set.Goals as goal

pub returns : goal.returns
unfolding blank_set
returns c = search rules
