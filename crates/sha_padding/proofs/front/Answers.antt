-- `sha_padding::front` meets its contract: the part is written over zeros. Assumes nothing.
use Rattle.sha_padding.proofs.Blocks.{filled-front}
use Rattle.sha_padding.proofs.front.Goals as goal

pub returns : goal.returns
returns c = rw c.copy_at.ensures (filled-front _ c.args.part.now c.requires)
