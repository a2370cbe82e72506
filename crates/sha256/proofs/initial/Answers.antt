-- `sha256::initial` meets its contract: the code is the definition, opened. Assumes nothing.
use Rattle.std.proofs.Common.{refl}
use Rattle.sha_block.specs.Initial.{initial_hash}
use Rattle.sha256.proofs.initial.Goals as goal

pub returns : goal.returns
unfolding initial_hash
returns c = refl
