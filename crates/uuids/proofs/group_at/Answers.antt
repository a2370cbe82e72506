-- `group_at` meets its contract: it is what its two tests say. Assumes nothing.
use mathlib.Core.Path.{ap, ◌∙◌}
use mathlib.Core.Bool.{Bool, ◌&&◌}
use lib.Dec.{eqb}
use lib.ListN.{get_or}
use Rattle.conversion.specs.Conversion.{each}
use Rattle.hexadecimal.specs.Hexadecimal.{is_digit}
use Rattle.uuids.specs.Uuid.{hyphen, group_at}
use Rattle.uuids.proofs.group_at.Goals as goal

pub returns : goal.returns
unfolding group_at
returns c =
    let a = c.args in
    let mark : Bool = eqb (get_or a.text.now a.at 0) hyphen in
    let e = c.both.ensures in
    e ∙ ap (λ (x : Bool). mark && x) (c.are_digits.ensures ∙ ap (each is_digit) c.part_of-digits.ensures)
