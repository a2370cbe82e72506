-- `apart` meets its contract: its four parts, one after the other. Assumes nothing.
use Rattle.std.proofs.Common.{ap, ◌∙◌}
use Rattle.printing.specs.Printing.{decimal}
use Rattle.door_answers.specs.Answer.{apart}
use Rattle.printing.specs.Laws.{then, then_as}
use Rattle.door_answers.proofs.apart.Goals as goal

pub returns-clause-written : goal.returns-clause-written
unfolding apart
returns-clause-written c =
    let t = c.args.text.now in
    let facility = then_as _ (ap decimal (c.from.ensures ∙ c.facility.ensures)) c.decimal.ensures.written in
    let number = then_as _ (ap decimal (c.from-2.ensures ∙ c.number.ensures)) c.decimal-2.ensures.written in
    then t _ _ (then t _ _ (then t _ _ c.put.ensures facility) c.put-2.ensures) number
