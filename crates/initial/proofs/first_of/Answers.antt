-- `initial::first_of` meets its contract, by the test on the way to each return. Assumes nothing.
use borrow.Author.Tests.{eq-eqb, ne_eqb}
use Rattle.std.proofs.Common.{rules}
use Rattle.initial.proofs.first_of.Goals as goal

pub returns-then-at-eq-KEY_SETS : goal.returns-then-at-eq-KEY_SETS
returns-then-at-eq-KEY_SETS c = search (rules, eq-eqb)

pub returns-else-at-eq-KEY_SETS : goal.returns-else-at-eq-KEY_SETS
returns-else-at-eq-KEY_SETS c = search (rules, ne_eqb)
