-- `shown` meets its contract. Assumes nothing.
use Rattle.std.proofs.Common.{take, get_or, sym, append-nil, arith}
use Rattle.printing.specs.Laws.{then, then_as, shown-more}
use Rattle.printing.specs.Printing.{shown_byte, shown}
use Rattle.printing.proofs.Text.shown.Goals as goal

pub loop-b-init : goal.loop-b-init
unfolding shown
loop-b-init g c = (sym (append-nil c.args.self.now), omega arith)

pub loop-b-preserved : goal.loop-b-preserved
loop-b-preserved g c =
    let t = c.args.self.now in
    let s = c.args.bytes.now in
    let i = c.loop-b.b-index in
    let more = then t (shown (take i s)) (shown_byte (get_or s i 0)) c.loop-b.invariant.0 c.byte.ensures.written in
    (then_as t (sym (shown-more s i (omega arith))) more, omega arith)
