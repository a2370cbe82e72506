-- `fa_key` meets its contract: what `choose` hands back, so that a refusal says what differs. Assumes nothing.
use Rattle.final_command.proofs.fa_key.Goals as goal

pub returns : goal.returns
returns c = c.choose.ensures
