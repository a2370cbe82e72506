-- `sha_block::one_turn` meets its contract: each call's result goes into the next sum. Assumes nothing.
use Rattle.sha_block.specs.Hash.{turn}
use Rattle.sha_block.proofs.one_turn.Goals as goal

pub returns : goal.returns
unfolding turn
returns c = cc
