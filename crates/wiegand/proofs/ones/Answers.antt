-- `ones` meets its contract: what was counted, and what the rest has, is what all have. Assumes nothing.
use native.Mathlib.Omega.{arith}
use Rattle.std.proofs.Common.{ℕ, Bool, cond, ap, get_or, eq-eqb, ne_eqb}
use Rattle.wiegand.specs.Laws.{ones-turn, ones-done}
use Rattle.wiegand.proofs.ones.Goals as goal
use Rattle.wiegand.proofs.ones.Goals.{then-b-eq1, else-b-eq1}

abbrev one : Bool → ℕ
one t = cond t 1 0

pub loop-b-preserved : goal.loop-b-preserved
loop-b-preserved c =
    let l = c.loop-b in
    let s = c.args.s.now in
    elim c.if-b-eq1.branch [
      | then-b-eq1 w ↦ (omega arith, omega (arith, l.invariant, ones-turn s l.b-index (omega arith), ap one (eq-eqb (get_or s l.b-index 0) 1 w.if-b-eq1.true)))
      | else-b-eq1 w ↦ (omega arith, omega (arith, l.invariant, ones-turn s l.b-index (omega arith), ap one (ne_eqb (get_or s l.b-index 0) 1 w.if-b-eq1.false)))
    ]

pub returns : goal.returns
returns c =
    let l = c.loop-b in
    let s = c.args.s.now in
    omega (arith, l.invariant, ones-done s l.b-index (omega arith))
