-- `chain` meets its contract. What is done of the text and what is left to do make the same whole (Turns). Assumes nothing.
-- Of the loop's end and of the count told only the value is asked, in whatever form they are written.
use Prim.Native.Nat.{◌+◌, ◌*◌, ◌/◌, ◌≤◌}
use mathlib.Core.Path.{◌≡◌, refl, ap, ◌∙◌}
use native.Mathlib.Nat.{sub-zero}
use native.Mathlib.Omega.{arith}
use lib.ListN.{length}
use Rattle.work.specs.Weights.{prepared-step}
use Rattle.cbc.specs.Ways.{out, next, step_of}
use Rattle.cbc.proofs.Turns.{text-turn, steps-turn, text-done, steps-done}
use Rattle.std.proofs.Common.{rules}
use Rattle.cbc.proofs.chain.Goals as goal

pub loop-n-init : goal.loop-n-init
loop-n-init c = (refl, refl, simp sub-zero)

pub copy_at-requires : goal.copy_at-requires
copy_at-requires c =
    let step = c.turn-step in
    let long : length step.result.block ≡ 16 = search (rules, step.type_inv) in
    omega arith

pub loop-n-preserved : goal.loop-n-preserved
loop-n-preserved c =
    let l = c.loop-n in
    let q = l.invariant in
    let v = c.args.way.now in
    let w = c.args.w.now in
    let key = c.args.key.now in
    let blocks = length c.args.text.now / 16 in
    let step = c.turn-step in
    let b = c.block_at-block.ensures in
    let summed = prepared-step l.after (step_of v key w l.chained c.block_at-block.result) c.prepare-shown.ensures in
    let y = step.ensures.0 ∙ ap (out v w l.chained) b in
    let z = step.ensures.1 ∙ ap (next v w l.chained) b in
    let long : length step.result.block ≡ 16 = search (rules, step.type_inv) in
    let now = c.copy_at.new.d in
    let put = c.copy_at.ensures in
    let at = 16 * l.n in
    let further : 16 * (l.n + 1) ≡ at + 16 = omega arith in
    let fits : at + 16 ≤ length l.text = omega arith in (
      omega arith,
      text-turn l.text _ now at _ fits long further put (out v w) (next v w) _ _ _ y z q.1,
      steps-turn l.text _ now at _ fits long further put key w blocks l.n _ _ _ _ (omega arith) refl v _ _ _ b step.ensures.1 (step.ensures.2 ∙ summed) q.2,
    )

pub shape_of-text : goal.shape_of-text
shape_of-text c = c.loop-n.invariant.0

pub returns : goal.returns
returns c =
    let l = c.loop-n in
    let a = c.args in
    let v = a.way.now in
    let w = a.w.now in
    let blocks = length a.text.now / 16 in
    let all_made : l.n ≡ blocks = first_of (omega arith, grind arith) in (
      steps-done a.key.now w _ _ _ blocks l.n _ _ all_made (first_of (omega arith, grind arith)) v _ _ l.invariant.2,
      text-done (out v w) (next v w) l.chained l.text _ (16 * l.n) (omega arith) l.invariant.1,
    )
