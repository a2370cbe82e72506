-- `reader_accept::known_length` meets its contract: each length that is named, and the others. Assumes nothing.
use Rattle.std.proofs.Common.{arith}
use Rattle.std.proofs.lemmas.Bool.Decides.{nat_tests}
use Rattle.reader_accept.specs.Accept.{known_length}
use Rattle.reader_accept.proofs.known_length.Goals as goal

pub returns-in-32 : goal.returns-in-32
unfolding known_length
returns-in-32 c = let h = c.in-32.is in grind (arith, nat_tests)

pub returns-in_default : goal.returns-in_default
unfolding known_length
returns-in_default c = grind (arith, nat_tests)
