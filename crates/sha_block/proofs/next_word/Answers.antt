-- `sha_block::next_word` meets its contract: each call's result goes into the next sum. A check finds this by itself,
-- but says less of a wrong index. Assumes nothing.
use Rattle.std.proofs.Common.{refl}
use Rattle.sha_block.proofs.next_word.Goals as goal

pub returns : goal.returns
returns c = rw (c.add-3.ensures, c.add-2.ensures, c.add.ensures, c.lower_sigma1.ensures, c.lower_sigma0.ensures) refl
