-- `rounds::inv_mix_columns` meets its contract: each column times its matrix. Assumes nothing.
use Rattle.rounds.specs.Meaning.{times}
use Rattle.rounds.proofs.inv_mix_columns.Goals as goal

pub returns : goal.returns
returns c =
    times c.args.s 0xe 0xb 0xd 9 c.inv_mix.ensures c.inv_mix-2.ensures c.inv_mix-3.ensures c.inv_mix-4.ensures
