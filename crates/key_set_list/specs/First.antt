-- The first eight key sets of the caller's list, and how many it has. Assumes nothing.
use Rattle.std.specs.Prelude.{List, length, get_or}
use Rattle.octets.specs.Lists.{table}
use Rattle.plaid_types.specs.Keys.{no_value}
use Rattle.plaid_types.specs.declared.KeySet.{KeySet}
use Rattle.key_set_list.specs.declared.Eight.{Eight}

-- what stands for a set where the list has none
unfoldable pub blank_set : KeySet
blank_set = record { id = record { 0 = 0 }; handle = 0; fa_key = no_value }

abbrev pub eight_of : List KeySet → Eight
eight_of l = record { sets = table (λ i. get_or l i blank_set) 8 0; count = length l }
