-- `heading` meets its contract. Assumes nothing.
use Rattle.printing.specs.Laws.{then, then_as}
use Rattle.door_answers.specs.Ways.{heading-cut, heading-whole}
use Rattle.door_answers.proofs.heading.Goals as goal

pub returns-then-start-n-clause-written : goal.returns-then-start-n-clause-written
returns-then-start-n-clause-written c =
    let a = c.args in
    then_as a.text.now (heading-cut a.start.now a.n c.if-start-n.true) (then a.text.now _ _ c.shown.ensures.written c.put.ensures)

pub returns-else-start-n-clause-written : goal.returns-else-start-n-clause-written
returns-else-start-n-clause-written c =
    let a = c.args in
    then_as a.text.now (heading-whole a.start.now a.n c.if-start-n.false) c.shown.ensures.written
