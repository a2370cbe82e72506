-- `opens` meets its contract: what the calls ensure is put into the definition. Assumes nothing.
use mathlib.Core.Path.{ap, ap₂, ◌∙◌}
use mathlib.Core.Bool.{◌&&◌}
use lib.ListN.{length}
use Rattle.reader_open.specs.Open.{agrees, opens_as}
use Rattle.reader_open.specs.Laws.{text-long}
use Rattle.reader_open.proofs.opens.Goals as goal

pub agrees-rest-requires : goal.agrees-rest-requires
agrees-rest-requires c = (c.requires.0, ap length c.text_of.ensures ∙ text-long c.args.l c.requires.0 c.args.b.now c.requires.1)

pub returns : goal.returns
unfolding opens_as
returns c =
    let a = c.args in
    c.both.ensures
    ∙ ap₂ (λ x y. x && y) c.formed.ensures (c.agrees-rest.ensures ∙ ap (agrees a.l a.id) c.text_of.ensures)
