-- `fault` meets its contract: the words that the tests lead to. Assumes nothing.
use Rattle.std.proofs.Common.{sym, ap, ◌∙◌, arith}
use Rattle.door_answers.specs.Answer.{fault}
use Rattle.printing.specs.Laws.{then_as}
use Rattle.door_answers.specs.Ways.{fault-25, fault-24, fault-record, fault-23}
use Rattle.door_answers.proofs.fault.Goals as goal

pub returns-in-25-clause-written : goal.returns-in-25-clause-written
returns-in-25-clause-written c =
    let a = c.args in
    then_as a.text.now (sym (fault-25 a.number a.is_record c.in-25.is)) c.put.ensures

pub returns-in-24-clause-written : goal.returns-in-24-clause-written
returns-in-24-clause-written c =
    let a = c.args in
    let words = ap (fault a.number) c.if-is_record.true ∙ fault-record a.number (λ e. omega arith) c.in-24.is in
    then_as a.text.now (sym words) c.put-in-24.ensures

pub returns-in-24-2-clause-written : goal.returns-in-24-2-clause-written
returns-in-24-2-clause-written c =
    let a = c.args in
    let words = ap (fault a.number) c.if-is_record.false ∙ fault-24 a.number (λ e. omega arith) c.in-24.is in
    then_as a.text.now (sym words) c.put-in-24-2.ensures

pub returns-in_default-clause-written : goal.returns-in_default-clause-written
returns-in_default-clause-written c =
    let a = c.args in
    then_as a.text.now (sym (fault-23 a.number a.is_record (λ e. omega arith) (λ e. omega arith))) c.put-in_default.ensures
