-- `set_slot` meets its contract: its parts are those of the definition. Assumes nothing.
use Rattle.load.proofs.set_slot.Goals as goal

pub returns : goal.returns
returns c = simp c.wide.ensures
