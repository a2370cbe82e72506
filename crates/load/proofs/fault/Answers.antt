-- `fault` meets its contract, by its tests. Assumes nothing.
use Rattle.std.proofs.Common.{arith}
use Rattle.std.proofs.lemmas.Bool.Decides.{nat_tests}
use Rattle.std.proofs.lemmas.Result.{err_from_is_err_and}
use Rattle.load.specs.Load.{refusal}
use Rattle.refusals.specs.Laws.{number-some}
use Rattle.load.proofs.fault.Goals as goal

pub returns-then-not-is_key_length : goal.returns-then-not-is_key_length
unfolding refusal
returns-then-not-is_key_length c = grind (arith, nat_tests)

pub returns-in_err-sets_fault : goal.returns-in_err-sets_fault
unfolding refusal
returns-in_err-sets_fault c =
    let p = err_from_is_err_and c.from_residual.result c.from_residual.ensures.1 in
    let e = c.in_err-sets_fault.ensures in
    let s = number-some c.in_err-sets_fault.field-0.0 in
    rw (p.1, p.2) (grind (arith, nat_tests))

pub returns : goal.returns
unfolding refusal
returns c =
    let e = c.in_ok-sets_fault.ensures in
    grind (arith, nat_tests)
