-- `formed` meets its contract: it is what the five groups say. Assumes nothing.
use mathlib.Core.Path.{ap, ap₂, ◌∙◌}
use mathlib.Core.Bool.{◌&&◌}
use Rattle.conversion.specs.Conversion.{each}
use Rattle.hexadecimal.specs.Hexadecimal.{is_digit}
use Rattle.uuids.specs.Uuid.{formed}
use Rattle.uuids.proofs.formed.Goals as goal

pub returns : goal.returns
unfolding formed
returns c =
    c.both-4.ensures
    ∙ ap₂ ◌&&◌ (c.are_digits-low.ensures ∙ ap (each is_digit) c.part_of-first.ensures)
    (c.both-3.ensures
    ∙ ap₂ ◌&&◌ c.group_at-mid.ensures
    (c.both-2.ensures
    ∙ ap₂ ◌&&◌ c.group_at-high.ensures
    (c.both.ensures ∙ ap₂ ◌&&◌ c.group_at-clock.ensures c.group_at-node.ensures)))
