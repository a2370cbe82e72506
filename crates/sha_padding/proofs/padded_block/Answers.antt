-- `sha_padding::padded_block` meets its contract: block i is of the message, or the one that it ends in, or the last
-- with the length alone, or past the last. Assumes nothing.
use Rattle.std.proofs.Common.{ap, sym, ◌∙◌, refl, arith}
use Rattle.octets.specs.Filled.{filled_none}
use Rattle.sha_padding.specs.Parsing.{block_at}
use Rattle.sha_padding.specs.PaddingLaws.{blocks-count}
use Rattle.sha_padding.proofs.Blocks.{begun, block_in, block_last, block-past}
use Rattle.sha_padding.proofs.padded_block.Goals as goal

pub returns-then-i-n : goal.returns-then-i-n
returns-then-i-n c =
    let a = c.args in
    block_in a.m.now a.i _ (begun a.m.now a.i 64 _ _ refl (omega arith) (omega arith) c.front.ensures)

pub returns-then-i-n-2 : goal.returns-then-i-n-2
returns-then-i-n-2 c =
    let a = c.args in
    c.ending.ensures ∙ ap (block_at a.m.now) (sym c.if-i-n-2.true)

pub returns-then-i-block_count : goal.returns-then-i-block_count
returns-then-i-block_count c =
    let a = c.args in
    block_last a.m.now a.i 0 (omega arith) (omega (arith, blocks-count a.m.now)) (filled_none _ _) c.put_length.ensures

pub returns : goal.returns
returns c =
    let a = c.args in
    block-past a.m.now a.i (omega arith)
