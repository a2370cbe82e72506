-- `mix_shown` meets its contract: two bytes, the high one first, or none. Assumes nothing.
use Rattle.steps.proofs.mix_shown.Goals as goal

pub returns-then-present : goal.returns-then-present
returns-then-present c = simp (c.mix_two.ensures, c.if-present.true)
