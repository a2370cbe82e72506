-- `reader_accept::has_record` meets its contract. Assumes nothing.
use Rattle.reader_accept.specs.Accept.{has_record}
use Rattle.reader_accept.proofs.has_record.Goals as goal

pub returns : goal.returns
unfolding has_record
returns c = c.both.ensures
