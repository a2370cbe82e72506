-- `plaid_load_sets` meets its contract: a load of the first eight key sets is the load of the list (First). Assumes nothing.
use Rattle.std.proofs.Common.{ap, ◌∙◌}
use Rattle.key_set_list.specs.declared.Eight.{Eight}
use Rattle.key_change.specs.KeyChange.{changed}
use Rattle.plaid.proofs.First.{change-first}
use Rattle.plaid.proofs.plaid_load_sets.Goals as goal

pub returns : goal.returns
returns c =
    let card = c.args.card in
    c.change.ensures
    ∙ ap (λ (e : Eight). changed card e.sets e.count) c.first_eight-of.ensures
    ∙ change-first card c.args.sets.now
