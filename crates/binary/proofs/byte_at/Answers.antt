-- `byte_at` meets its contract: two times four bits are the byte (`value-eight`). Assumes nothing.
use Prim.Native.Nat.{◌+◌}
use native.Mathlib.Omega.{arith}
use Rattle.binary.specs.Laws.{value-eight}
use Rattle.binary.proofs.byte_at.Goals as goal

pub four-high-requires : goal.four-high-requires
four-high-requires c =
    let at = c.args.at in
    (c.requires.1 at, c.requires.1 (at + 1), c.requires.1 (at + 2), c.requires.1 (at + 3))

pub four-low-requires : goal.four-low-requires
four-low-requires c =
    let at = c.args.at in
    (c.requires.1 (at + 4), c.requires.1 (at + 5), c.requires.1 (at + 6), c.requires.1 (at + 7))

pub returns : goal.returns
returns c =
    omega (arith, c.four-high.ensures.value, c.four-low.ensures.value, value-eight c.args.bits.now c.args.at c.requires.0)
