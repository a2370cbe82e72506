-- `compare_modes` meets its contract. The invariant: the sum and the first match of the slots that are left make those of all (Slots). Assumes nothing.
use mathlib.Core.Path.{◌≡◌, ap, sym, ◌∙◌}
use Prim.Native.Nat.{◌+◌, ◌<◌}
use native.Mathlib.Omega.{arith}
use lib.ListN.{length, drop}
use Rattle.work.specs.Steps.{sum_from}
use Rattle.steps.specs.Laws.{kept_next}
use Rattle.final_command.specs.Final.{mode_steps}
use Rattle.final_command.proofs.Slots.{sum-turn, first-turn, found-same}
use Rattle.final_command.proofs.compare_modes.Goals as goal

pub overflow_add-count : goal.overflow_add-count
overflow_add-count c = omega (arith, ap (λ r. r.count) c.compare_modes-c.ensures)

pub loop-i-preserved : goal.loop-i-preserved
loop-i-preserved c =
    let l = c.loop-i in
    let a = c.args in
    let e = c.compare_modes-c.ensures in
    let n : length a.modes ≡ 16 = omega arith in
    let k : l.i < 16 = c.loop-i-test.true in
    let h : l.i < length a.modes = omega arith in (
      omega (arith, ap (λ r. r.count) e, l.invariant.0),
      ap (λ r. sum_from r.sum (mode_steps a.v (drop (l.i + 1) a.modes))) e ∙ sym (sum-turn a.v a.modes l.i l.s h) ∙ l.invariant.1,
      rw (c.keep-at.ensures, kept_next _ _ _ _ _ k, ap (λ r. r.value) e) (rw (first-turn a.v a.modes l.i h) at l.invariant.2),
    )

pub returns : goal.returns
returns c =
    let l = c.loop-i in
    let a = c.args in
    let n : length a.modes ≡ 16 = omega arith in
    let e : l.i ≡ 16 = omega (arith, l.auto.i-end, c.loop-i-test.false) in
    found-same a.v a.modes l.i l.at l.count l.s a.sum n e l.invariant.0 l.invariant.1 l.invariant.2
