-- `sha256_vectors::outputs` ends: the next line is shorter, which `rsp::next_line` ensures. Assumes nothing.
use Rattle.std.proofs.Common.{length}
use Rattle.sha256_vectors.proofs.outputs.Given as goal

abbrev pub decreases-loop-rest : goal.decreases-loop-rest
decreases-loop-rest g l = length l.rest
