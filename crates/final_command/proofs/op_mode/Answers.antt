-- `op_mode` meets its contract by that of its call. Assumes nothing.
use Rattle.final_command.specs.Final.{op_mode}
use Rattle.final_command.proofs.op_mode.Goals as goal

pub returns : goal.returns
unfolding op_mode
returns c = rw c.word.ensures
