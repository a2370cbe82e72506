-- `column::mix` meets its contract: its parts are those of `mixing`. Assumes nothing.
use mathlib.Core.Path.{◌∙◌}
use lib.Bits.{xor_lt}
use Rattle.column.specs.Mixing.{mixing}
use Rattle.column.specs.Library.{right_8, right_16}
use Rattle.std.proofs.Common.{rules}
use Rattle.column.proofs.mix.Goals as goal

pub returns : goal.returns
returns c =
    mixing c.args.t (search rules) (c.rotate_right-next.ensures ∙ right_8 _ (search rules)) c.times_2.ensures
    (c.rotate_right.ensures ∙ right_16 _ (xor_lt 32 c.args.t c.rotate_right-next.result (search rules) (search (rules, c.rotate_right-next.type_inv))))
