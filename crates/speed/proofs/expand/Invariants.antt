-- `speed::expand` is safe: the key keeps its length. Assumes nothing.
use Rattle.std.proofs.Common.{◌≡◌, length}
use Rattle.speed.proofs.expand.Given as goal

abbrev pub invariant-loop : goal.invariant-loop
invariant-loop l = length l.key ≡ length l.initial.key
