-- `column::inv_mix` meets its contract: its parts are those of `inv-mixing`. Assumes nothing.
use mathlib.Core.Path.{◌∙◌}
use Rattle.column.specs.Mixing.{inv-mixing}
use Rattle.column.specs.Library.{right_16}
use Rattle.std.proofs.Common.{rules}
use Rattle.column.proofs.inv_mix.Goals as goal

pub returns : goal.returns
returns c = c.mix.ensures ∙ inv-mixing c.args.t (search rules) (c.rotate_right-opposite.ensures ∙ right_16 _ (search rules)) c.times_4-four.ensures
