-- `plaid_types::counted` meets its contract, by whether there is one to count. It names no step: what is added up is left to omega. Assumes nothing.
use Rattle.std.proofs.Common.{◌≡◌, Bool, true, false, cond, ℕ, ◌+◌, ◌<◌, min, arith}
use mir.Val.{bool_byte}
use Rattle.plaid_types.specs.Tries.{holding, one_more}
use Rattle.plaid_types.proofs.counted.Goals as goal

by_test : (one : Bool) (n : ℕ) {sum : ℕ} → n < 65536 → sum ≡ min (n + bool_byte one) 65535 → sum ≡ cond one (one_more n) n
unfolding holding
by_test true n h e = omega arith
by_test false n h e = omega arith

pub returns : goal.returns
returns c = by_test c.args.one c.args.n c.ranges.n.fits (omega arith)
