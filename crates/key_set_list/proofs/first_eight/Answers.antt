-- `first_eight` meets its contract: the closure gives the set at each place (Turns). Assumes nothing.
use Rattle.std.proofs.Common.{◌≡◌, refl, ap, ℕ, List, length, get_or, rules}
use Rattle.octets.specs.Lists.{table}
use Rattle.plaid_types.specs.declared.KeySet.{KeySet}
use Rattle.key_set_list.specs.First.{blank_set}
use Rattle.key_set_list.proofs.Turns.{mapped}
use Rattle.key_set_list.proofs.first_eight.Goals as goal

pub returns : goal.returns
returns c =
    let s : List KeySet = c.args.sets.now in
    let picked =
    mapped _ (λ (i : ℕ). get_or s i blank_set) _ _ _ _ c.map.ensures.items refl
    (search rules, (search rules, (search rules, (search rules, (search rules, (search rules, (search rules, (search rules, tt)))))))) in
    let e : c.map.result ≡ table (λ i. get_or s i blank_set) 8 0 = picked in
    ap (λ (t : List KeySet). record { sets = t; count = length s }) e
