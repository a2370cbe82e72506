-- `wrong_length` meets its contract: its three parts, one after the other. Assumes nothing.
use Rattle.door_answers.specs.Answer.{wrong_length}
use Rattle.printing.specs.Laws.{then}
use Rattle.door_answers.proofs.wrong_length.Goals as goal

pub returns-clause-written : goal.returns-clause-written
unfolding wrong_length
returns-clause-written c =
    let t = c.args.text.now in
    then t _ _ (then t _ _ c.put.ensures c.decimal.ensures.written) c.put-2.ensures
