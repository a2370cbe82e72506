-- `sha_block::load` meets its contract. The loop's invariant: the first i places hold the block's words. Assumes
-- nothing.
use Rattle.std.proofs.Common.{◌≡◌, length}
use Rattle.octets.specs.Filled.{Filled}
use Rattle.sha_padding.specs.Parsing.{block_word}
use Rattle.sha_block.proofs.load.Given as goal

abbrev pub invariant-loop-i : goal.invariant-loop-i
invariant-loop-i l = (length l.initial.w ≡ 64) × Filled (block_word l.b) l.initial.w l.w l.i
