-- `rounds::mix_columns` meets its contract: each column times its matrix. Assumes nothing.
use Rattle.rounds.specs.Meaning.{times}
use Rattle.rounds.proofs.mix_columns.Goals as goal

pub returns : goal.returns
returns c =
    times c.args.s 2 3 1 1 c.mix.ensures c.mix-2.ensures c.mix-3.ensures c.mix-4.ensures
