-- `octets::copy_at` meets its contract: the first bytes are written over the slice. Assumes nothing.
use native.Mathlib.Omega.{arith}
use native.Mathlib.Numerals.{add-one}
use lib.Seq.{paste-suc, take-length}
use Rattle.std.proofs.Common.{◌≡◌, ◌+◌, ◌<◌, ◌∙◌, ap, ℕ, List, ◌++◌, length, take, drop, length-set}
use Rattle.octets.specs.Lists.{over}
use Rattle.octets.proofs.copy_at.Goals as goal

pub loop-i-preserved : goal.loop-i-preserved
loop-i-preserved c =
    let q = c.loop-i.invariant in
    let h : c.args.at + c.loop-i.i < length c.args.d.now = omega arith in
    let k : c.loop-i.i < length c.args.s.now = omega arith in
    (simp length-set q.0, rw (q.1, add-one) (paste-suc _ _ _ _ 0 h k))

pub returns : goal.returns
unfolding over
returns c =
    let a = c.args in
    let e : c.loop-i.i ≡ length a.s.now = omega arith in
    rw e at c.loop-i.invariant.1
    ∙ ap (λ (x : List ℕ). take a.at a.d.now ++ x ++ drop (a.at + length a.s.now) a.d.now) (take-length a.s.now)
