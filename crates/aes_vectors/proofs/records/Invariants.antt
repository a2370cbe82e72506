-- `aes_vectors::records` ends: the next line is shorter, which `rsp::next_line` ensures. Assumes nothing.
use Rattle.std.proofs.Common.{length}
use Rattle.aes_vectors.proofs.records.Given as goal

abbrev pub decreases-loop-rest : goal.decreases-loop-rest
decreases-loop-rest g l = length l.rest
