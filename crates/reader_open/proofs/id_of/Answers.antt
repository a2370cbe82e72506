-- `id_of` meets its contract: the two bytes as a number. Assumes nothing.
use Rattle.reader_open.proofs.id_of.Goals as goal

pub returns : goal.returns
returns c = rw c.word.ensures
