-- `mix` meets its contract: the code is the definition, opened. Assumes nothing.
use Rattle.std.proofs.Common.{refl}
use Rattle.work.specs.Steps.{mixed}
use Rattle.work.proofs.mix.Goals as goal

pub returns : goal.returns
unfolding mixed
returns c = rw (c.from.ensures, c.from-2.ensures) refl
