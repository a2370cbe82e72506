-- `keep` meets its contract, by its two tests. Assumes nothing.
use borrow.Author.Tests.{eq-eqb, ne_eqb}
use Rattle.steps.proofs.keep.Goals as goal

pub returns-then-hit : goal.returns-then-hit
returns-then-hit c = simp (eq-eqb _ _ c.if-at-n.true, c.if-hit.true)

pub returns-else-hit : goal.returns-else-hit
returns-else-hit c = simp (eq-eqb _ _ c.if-at-n.true, c.if-hit.false)

pub returns-else-at-n : goal.returns-else-at-n
returns-else-at-n c = simp (ne_eqb _ _ c.if-at-n.false)
