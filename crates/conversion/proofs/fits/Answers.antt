-- `fits` meets its contract: 23 of a misfit, and else no number. Assumes nothing.
use Rattle.std.proofs.Common.{Bool, cond, ap}
use Rattle.conversion.proofs.fits.Goals as goal

pub returns-then-misfit : goal.returns-then-misfit
returns-then-misfit c = ap (λ (b : Bool). cond b 23 0) c.if-misfit.ensures
