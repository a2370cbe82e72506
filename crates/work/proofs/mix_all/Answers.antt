-- `mix_all` meets its contract: the blocks and what is left make up the whole (Turns). Assumes nothing.
use Rattle.std.proofs.Common.{◌∙◌}
use Rattle.work.proofs.Turns.{rows-turn, rows-done, blocks-done, whole}
use Rattle.work.proofs.mix_all.Goals as goal

pub loop-block-preserved : goal.loop-block-preserved
loop-block-preserved c = rows-turn _ _ _ _ _ c.loop-block-test.true c.mix_block-sum.ensures c.loop-block.invariant

pub returns : goal.returns
returns c =
    let a = c.args in
    let k = c.as_chunks.ensures in
    let mixed = rows-done _ _ _ _ c.loop-block-test.false c.loop-block.invariant in
    c.mix_each.ensures ∙ blocks-done _ a.s _ a.bytes.now k.front k.back mixed (search whole)
