-- `octets::block_at` meets its contract: the bytes below i are the slice's. Assumes nothing.
use Prim.Native.Nat.{◌+◌}
use lib.ListN.{get_or}
use Rattle.octets.specs.Filled.{Filled}
use Rattle.octets.proofs.block_at.Given as goal

abbrev pub invariant-loop-i : goal.invariant-loop-i
invariant-loop-i l = Filled (λ k. get_or l.s (l.at + k) 0) l.initial.b l.b l.i
