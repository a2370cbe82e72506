-- `sha_padding::put_length`: the first bytes of the length are written over the block. Assumes nothing.
use Rattle.std.proofs.Common.{◌≡◌}
use lib.Seq.{paste}
use Rattle.sha_padding.proofs.put_length.Given as goal

abbrev pub invariant-loop-i : goal.invariant-loop-i
invariant-loop-i l = l.t ≡ paste l.fn.b 56 l.length l.i
