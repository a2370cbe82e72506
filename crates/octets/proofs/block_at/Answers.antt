-- `octets::block_at` meets its contract: the bytes below i are the slice's. Assumes nothing.
use Prim.Native.Nat.{◌+◌}
use mathlib.Core.Path.{◌≡◌, refl, sym, ◌∙◌}
use lib.ListN.{length, get_or}
use native.Mathlib.Omega.{arith}
use Rattle.octets.specs.Lists.{part, tabled, length_part, get_or-part}
use Rattle.octets.specs.Filled.{filled_none, filled_more, filled-all}
use Rattle.std.proofs.Common.{rules}
use Rattle.octets.proofs.block_at.Goals as goal

pub loop-i-init : goal.loop-i-init
loop-i-init c = filled_none _ _

pub loop-i-preserved : goal.loop-i-preserved
loop-i-preserved c = filled_more c.loop-i.invariant (search rules) refl

pub returns : goal.returns
returns c =
    let a = c.args in
    let block = part a.s.now a.at 16 in
    let p : length block ≡ 16 = length_part a.s.now a.at 16 (omega arith) in
    filled-all 16 c.loop-i.invariant (search rules) (omega arith)
    ∙ sym
    (tabled (λ k. get_or a.s.now (a.at + k) 0) 16 0 block 0 (omega arith)
    (λ k h. get_or-part a.s.now a.at 16 k 0 (omega arith)))
