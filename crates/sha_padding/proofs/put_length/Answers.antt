-- `sha_padding::put_length` meets its contract: the bytes of the length are written over the block. Assumes nothing.
use lib.Seq.{paste-zero}
use Rattle.std.proofs.Common.{◌≡◌, arith, rules}
use Rattle.sha_padding.proofs.Blocks.{length-turn, length-put}
use Rattle.sha_padding.proofs.put_length.Goals as goal

pub loop-i-init : goal.loop-i-init
loop-i-init c = paste-zero c.args.b 56 c.to_be_bytes-length.result

pub loop-i-preserved : goal.loop-i-preserved
loop-i-preserved c =
    let l = c.loop-i in
    length-turn c.args.b _ l.i _ (omega arith) (search rules) (search rules) (omega arith) l.invariant

pub returns : goal.returns
returns c =
    let l = c.loop-i in
    let e : l.i ≡ 8 = omega arith in
    length-put c.args.b c.args.n c.to_be_bytes-length.ensures (rw e at l.invariant)
