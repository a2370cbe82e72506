-- `column::put` meets its contract: the part that is written to holds the word's bytes. Assumes nothing.
use native.Mathlib.Omega.{arith}
use Rattle.std.proofs.Common.{rules}
use Rattle.column.specs.Library.{put_le}
use Rattle.column.proofs.put.Goals as goal

pub returns : goal.returns
returns c = put_le c.args.b _ c.args.at _ c.args.w (search rules) (omega arith) (search rules)
