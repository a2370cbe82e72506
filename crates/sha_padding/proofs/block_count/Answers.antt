-- `sha_padding::block_count` meets its contract, by the length of the padded message. Assumes nothing.
use Rattle.std.proofs.Common.{sym}
use Rattle.sha_padding.specs.PaddingLaws.{blocks-count}
use Rattle.sha_padding.proofs.block_count.Goals as goal

pub returns : goal.returns
returns c = sym (blocks-count c.args.m.now)
