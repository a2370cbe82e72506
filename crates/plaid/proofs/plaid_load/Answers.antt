-- `plaid_load` meets its contract: a load of the first eight key sets is the load of the list (First). Assumes nothing.
use Rattle.std.proofs.Common.{ap, ◌∙◌}
use Rattle.key_set_list.specs.declared.Eight.{Eight}
use Rattle.load.specs.Load.{loaded}
use Rattle.plaid.proofs.First.{load-first}
use Rattle.plaid.proofs.plaid_load.Goals as goal

pub returns : goal.returns
returns c =
    let g = c.args.given in
    let area = c.args.area.now in
    c.load.ensures
    ∙ ap (λ (e : Eight). loaded g.key_length e.sets e.count g.modes g.mode_count area g.div_data g.shill_key g.shill_handle) c.first_eight-of.ensures
    ∙ load-first c.args.sets.now g area
