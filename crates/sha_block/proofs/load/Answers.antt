-- `sha_block::load` meets its contract: after the loop the first sixteen places hold the block's words. Assumes
-- nothing.
use Rattle.std.proofs.Common.{◌≡◌, ◌∙◌, length, take, length-take-le, get_or-take, arith}
use Rattle.octets.specs.Lists.{tabled}
use Rattle.sha_padding.specs.Parsing.{block_word, block_words}
use Rattle.sha_block.proofs.load.Goals as goal

pub returns : goal.returns
unfolding block_words
returns c =
    let l = c.loop-i in
    let f = l.invariant.1 in
    let e : length (take 16 l.w) ≡ 16 = length-take-le 16 l.w (omega (arith, f.long)) in
    tabled (block_word c.args.b.now) 16 0 (take 16 l.w) 0 (omega arith)
    (λ k h. get_or-take 16 l.w k 0 (omega arith) ∙ f.done k (omega arith))
