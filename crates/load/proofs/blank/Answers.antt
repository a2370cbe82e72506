-- `blank` meets its contract: its parts are those of the definition. Assumes nothing.
use Rattle.octets.specs.Lists.{part, over}
use Rattle.plaid_types.specs.Keys.{wide, held}
use Rattle.load.specs.Load.{blank_card, loaded_card, table_of}
use Rattle.load.proofs.blank.Goals as goal

pub returns : goal.returns
unfolding blank_card loaded_card table_of wide held over part
returns c =
    simp (c.none-2.ensures, c.none.ensures, c.empty_area.ensures, c.empty_modes.ensures, c.empty_sets.ensures)
