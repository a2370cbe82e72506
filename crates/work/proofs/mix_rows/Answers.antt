-- `mix_rows` meets its contract: what is left, mixed into the sum now, is the whole, mixed into the first. Assumes nothing.
use native.Mathlib.Omega.{arith}
use Rattle.work.proofs.Turns.{rows-turn, rows-done}
use Rattle.work.proofs.mix_rows.Goals as goal

pub loop-row-preserved : goal.loop-row-preserved
loop-row-preserved c = rows-turn c.args.rows.now c.loop-row.row _ _ _ (omega arith) c.mix_block-sum.ensures c.loop-row.invariant

pub returns : goal.returns
returns c = rows-done c.args.rows.now c.loop-row.row _ _ (omega arith) c.loop-row.invariant
