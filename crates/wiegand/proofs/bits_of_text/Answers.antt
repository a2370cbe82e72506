-- `bits_of_text` meets its contract: all bits are written after six zeros. Assumes nothing.
use Prim.Native.Nat.{ℕ}
use mathlib.Core.Path.{sym, ap, ◌∙◌}
use mathlib.Core.List.{List, ◌++◌}
use lib.ListN.{replicate}
use Rattle.octets.specs.Lists.{over}
use Rattle.octets.specs.Filled.{filled-all}
use Rattle.wiegand.specs.Wiegand.{bit_of}
use Rattle.binary.specs.Places.{map-places}
use Rattle.std.proofs.Common.{rules}
use Rattle.wiegand.proofs.bits_of_text.Goals as goal

pub returns : goal.returns
unfolding over
returns c =
    let l = c.loop-i in
    let t = c.args.text.now in
    c.copy_at.ensures
    ∙ ap (over (replicate 32 0) 6) (filled-all 26 l.invariant (search rules) (search rules))
    ∙ ap (λ (s : List ℕ). replicate 6 0 ++ s) (sym (map-places bit_of 26 t (search rules)))
