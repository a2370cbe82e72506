-- `copied` meets its contract: zeros are left after the copy (Turns). Assumes nothing.
use Rattle.std.proofs.Common.{◌∙◌, refl}
use Rattle.octets.specs.Writes.{over-front}
use Rattle.load.proofs.Turns.{zeros-left}
use Rattle.load.proofs.copied.Goals as goal

pub returns : goal.returns
returns c = c.copy_at.ensures ∙ over-front _ c.args.area.now ∙ zeros-left _ _ _ refl c.empty_area-whole.ensures c.requires
