-- `sha256::hash` meets its contract. The loop's invariant: h is the hash value after i blocks. Assumes nothing.
use Rattle.std.proofs.Common.{◌≡◌}
use Rattle.sha_padding.specs.Parsing.{blocks}
use Rattle.sha_block.specs.Hash.{state_after}
use Rattle.sha256.proofs.hash.Given as goal

abbrev pub invariant-loop-i : goal.invariant-loop-i
invariant-loop-i l = (l.n ≡ blocks l.m) × (l.h ≡ state_after l.m l.i)
