-- `diversification::flip` meets its contract. Assumes nothing.
use mathlib.Core.Path.{refl}
use Rattle.diversification.specs.Diversification.{flipped}
use Rattle.diversification.proofs.flip.Goals as goal

pub returns : goal.returns
unfolding flipped
returns c = refl
