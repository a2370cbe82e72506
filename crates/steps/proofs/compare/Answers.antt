-- `compare` meets its contract: the sum of the parts one after the other is that of the step. Assumes nothing.
use Rattle.std.proofs.Common.{◌≡◌, refl, Bool, true, false}
use mir.Val.{bool_byte}
use Rattle.work.specs.Laws.{mixed_all-append}
use Rattle.steps.specs.Made.{bit_of}
use Rattle.steps.proofs.compare.Goals as goal

bit_is : (y : Bool) → bool_byte y ≡ bit_of y
bit_is true = refl
bit_is false = refl

pub returns : goal.returns
returns c =
    simp (
      c.mix-d.ensures,
      c.from.ensures,
      bit_is,
      c.mix_shown-c.ensures,
      c.mix_shown-b.ensures,
      c.mix-a.ensures,
      c.number.ensures,
      c.matches-hit.ensures,
      mixed_all-append,
    )
