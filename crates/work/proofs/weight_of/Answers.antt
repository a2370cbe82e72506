-- `weight_of` meets its contract: after k turns w is the weight that k bytes give. Assumes nothing.
use Rattle.std.proofs.Common.{ℕ, ◌*◌, ◌%◌, ◌^◌, sym, ap, ◌∙◌, add-one}
use Rattle.work.specs.Weights.{weight, up}
use Rattle.work.proofs.weight_of.Goals as goal

pub returns-then-n-eq16 : goal.returns-then-n-eq16
returns-then-n-eq16 c = ap weight (sym c.if-n-eq16.true)

pub loop-preserved : goal.loop-preserved
loop-preserved c =
    let l = c.loop in
    ap (λ (x : ℕ). 257 * x % 2 ^ 32) (c.from.ensures ∙ l.invariant) ∙ sym (up l.counter) ∙ ap weight (sym (add-one l.counter))
