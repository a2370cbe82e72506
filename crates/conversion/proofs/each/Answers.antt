-- `each` meets its contract: ok, and one character more (`each_turn`). Assumes nothing.
use Rattle.std.proofs.Common.{get_or, arith}
use Rattle.conversion.specs.Answers.{each_turn}
use Rattle.conversion.proofs.each.Goals as goal

pub loop-c-preserved : goal.loop-c-preserved
loop-c-preserved g c =
    λ p h.
    let l = c.loop-c in
    let s = c.args.s.now in
    let seen = h (get_or s l.c-index 0) c.test.result (c.type_inv.s l.c-index).fits c.test.ensures in
    each_turn p s l.c-index l.ok c.test.result (omega arith) seen c.both-ok.ensures (l.invariant p h)
