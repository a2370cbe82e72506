-- `parity_right` meets its contract: two counts of thirteen bits (`parity-by`). Assumes nothing.
use Rattle.wiegand.proofs.Ways.{parity-by}
use Rattle.wiegand.proofs.parity_right.Goals as goal

pub returns : goal.returns
returns c =
    parity-by c.args.bits.now c.requires c.part_of-first.ensures c.part_of-last.ensures
    c.ones.ensures c.ones-2.ensures c.both.ensures
