-- `reader_accept::clear` meets its contract. Assumes nothing.
use mathlib.Core.Path.{◌≡◌, ap, ap₂, ◌∙◌}
use mathlib.Core.List.{List, ◌++◌}
use Prim.Native.Nat.{ℕ, ◌+◌}
use native.Mathlib.Omega.{arith}
use lib.ListN.{length, drop, replicate, length-replicate}
use lib.Seq.{length-take-le}
use Rattle.octets.specs.Lists.{over}
use Rattle.reader_accept.proofs.clear.Goals as goal

pub returns : goal.returns
unfolding over
returns c =
    let w = c.args.work.now in
    let n = c.args.n in
    let zeros : c.fill.new.self ≡ replicate n 0 = c.fill.ensures.after (λ y q. q) ∙ ap (λ (k : ℕ). replicate k 0) (length-take-le n w c.requires) in
    let end : n ≡ 0 + length (replicate n 0) = omega (arith, length-replicate {A = ℕ} n 0) in
    ap₂ (λ (x y : List ℕ). x ++ y) zeros (ap (λ (k : ℕ). drop k w) end)
