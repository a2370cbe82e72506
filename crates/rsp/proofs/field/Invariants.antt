-- `rsp::field` ends: the next line is shorter, which `next_line` ensures. Assumes nothing.
use Rattle.std.proofs.Common.{length}
use Rattle.rsp.proofs.field.Given as goal

abbrev pub decreases-loop-rest : goal.decreases-loop-rest
decreases-loop-rest l = length l.rest
