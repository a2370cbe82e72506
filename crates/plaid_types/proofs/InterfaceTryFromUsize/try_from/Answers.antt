-- A number that is neither 0 nor 1 is no interface. Assumes nothing.
use Rattle.std.proofs.Common.{refl, arith}
use Rattle.plaid_types.specs.TriesLaws.{interface-else}
use Rattle.plaid_types.proofs.InterfaceTryFromUsize.try_from.Goals as goal

pub returns-in_default : goal.returns-in_default
returns-in_default c = (interface-else c.args.i (λ e. omega arith) (λ e. omega arith), refl)
