-- `verdict` meets its contract, by the tests of the length. Assumes nothing.
use native.Mathlib.Omega.{arith}
use Rattle.printing.specs.Laws.{then_as}
use Rattle.door_answers.specs.Ways.{verdict-26, verdict-36, verdict-8, verdict-32, verdict-none}
use Rattle.door_answers.proofs.verdict.Goals as goal

pub returns-in-26-clause-written : goal.returns-in-26-clause-written
returns-in-26-clause-written c =
    let a = c.args in
    then_as a.text.now (verdict-26 a.start.now a.n c.in-26.is) c.wiegand_text.ensures.written

pub returns-in-36-clause-written : goal.returns-in-36-clause-written
returns-in-36-clause-written c =
    let a = c.args in
    then_as a.text.now (verdict-36 a.start.now a.n (λ e. omega arith) c.in-36.is) c.uuid_text.ensures.written

pub returns-in-8-clause-written : goal.returns-in-8-clause-written
returns-in-8-clause-written c =
    let a = c.args in
    then_as a.text.now (verdict-8 a.start.now a.n (λ e. omega arith) (λ e. omega arith) c.in-8.is) c.wiegand_record.ensures.written

pub returns-in-32-clause-written : goal.returns-in-32-clause-written
returns-in-32-clause-written c =
    let a = c.args in
    then_as a.text.now (verdict-32 a.start.now a.n (λ e. omega arith) (λ e. omega arith) (λ e. omega arith) c.in-32.is) c.uuid_record.ensures.written

pub returns-in_default-clause-written : goal.returns-in_default-clause-written
returns-in_default-clause-written c =
    let a = c.args in
    then_as a.text.now (verdict-none a.start.now a.n (λ e. omega arith) (λ e. omega arith) (λ e. omega arith) (λ e. omega arith)) c.wrong_length.ensures.written
