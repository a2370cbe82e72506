-- `end_from` meets its contract. The loop keeps the end of the bytes passed, or where it started. Assumes nothing.
use Rattle.std.proofs.Common.{◌≡◌, sym, ap, ◌∙◌, ◌+◌, ◌-◌, ◌<◌, length, get_or, add-zero, add_assoc, add-one, arith}
use Rattle.std.proofs.lemmas.List.Edits.{length-between, get_or-between}
use lib.ListN.{take, drop}
use Rattle.padding.specs.Method2.{text_end}
use Rattle.padding.specs.Laws.{text_end-le, end-zero, end-moves}
use Rattle.padding.proofs.end_from.Goals as goal
use Rattle.padding.proofs.end_from.Goals.{then-b-ne0, else-b-ne0}

pub loop-i-init : goal.loop-i-init
loop-i-init c = rw add-zero (omega (arith, text_end-le c.args.s.now c.args.start))

pub loop-i-preserved : goal.loop-i-preserved
loop-i-preserved c =
    let s = c.args.s.now in
    let k = c.args.start + c.loop-i.i in
    let h : k < length s = omega (arith, length-between s c.args.start (length s) (omega arith)) in
    let at : get_or (take (length s - c.args.start) (drop c.args.start s)) c.loop-i.i 0 ≡ get_or s k 0 = get_or-between s c.args.start (length s) c.loop-i.i 0 h in
    let more = ap (text_end s) (sym (add_assoc c.args.start c.loop-i.i 1) ∙ add-one k) in
    elim c.if-b-ne0.branch [
      | then-b-ne0 w ↦ omega (arith, more, end-moves s k (λ z. w.if-b-ne0.true (at ∙ z)))
      | else-b-ne0 w ↦ omega (arith, more, end-zero s k (sym at ∙ w.if-b-ne0.false))
    ]

pub returns : goal.returns
returns c =
    let s = c.args.s.now in
    let e : c.args.start + c.loop-i.i ≡ length s = omega (arith, length-between s c.args.start (length s) (omega arith)) in
    rw e at c.loop-i.invariant
