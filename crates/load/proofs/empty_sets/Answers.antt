-- `empty_sets` meets its contract, by computing. Assumes nothing.
use mathlib.Core.Path.{refl}
use Rattle.load.specs.Load.{filled}
use Rattle.load.proofs.empty_sets.Goals as goal

pub returns : goal.returns
unfolding filled
returns c = refl
