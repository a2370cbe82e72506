-- `sha256_vectors::seed_of` ends: the next line is shorter, which `rsp::next_line` ensures. Assumes nothing.
use Rattle.std.proofs.Common.{length}
use Rattle.sha256_vectors.proofs.seed_of.Given as goal

abbrev pub decreases-loop-rest : goal.decreases-loop-rest
decreases-loop-rest l = length l.rest
