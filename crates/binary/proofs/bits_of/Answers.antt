-- `bits_of` meets its contract: the bits of i bytes are written (`bits-turn`). Assumes nothing.
use Prim.Native.Nat.{ℕ, ◌*◌}
use mathlib.Core.Path.{◌≡◌, sym, ap, ◌∙◌}
use lib.ListN.{take, replicate}
use native.Mathlib.Omega.{arith}
use Rattle.octets.specs.Lists.{over, over_none}
use Rattle.binary.specs.Binary.{bits_of}
use Rattle.binary.specs.Laws.{bits-turn, bits-end}
use Rattle.std.proofs.Common.{rules}
use Rattle.binary.proofs.bits_of.Goals as goal

pub loop-i-init : goal.loop-i-init
unfolding bits_of
loop-i-init c = (search rules, sym (over_none _ 0))

pub loop-i-preserved : goal.loop-i-preserved
loop-i-preserved c =
    let l = c.loop-i in
    let r = c.args.bytes.now in (
      search rules,
      bits-turn _ r l.i (omega arith) l.invariant.1 (c.copy_at.ensures ∙ ap (over l.bits (8 * l.i)) c.bits_of_byte-eight.ensures),
    )

pub returns : goal.returns
returns c =
    let l = c.loop-i in
    let r = c.args.bytes.now in
    let e : l.i ≡ 4 = omega arith in
    l.invariant.1 ∙ ap (λ (n : ℕ). over (replicate 32 0) 0 (bits_of (take n r))) e ∙ bits-end r (search rules)
