-- `accepts` meets its contract: the conditions joined in the order of the definition. Assumes nothing.
use mathlib.Core.Bool.{Bool, ◌&&◌}
use mathlib.Core.Path.{◌≡◌, sym, ap, ◌∙◌}
use Prim.Native.Nat.{◌%◌}
use native.Mathlib.Omega.{arith}
use lib.Dec.{eqb}
use lib.Seq.{length-take-le}
use lib.ListN.{length}
use Rattle.octets.specs.Lists.{part}
use Rattle.final_command.specs.Final.{accepting}
use Rattle.final_command.proofs.accepts.Goals as goal

pub slice_bounds-sealed-end : goal.slice_bounds-sealed-end
slice_bounds-sealed-end c =
    let t : length c.args.text ≡ 240 = omega arith in
    sym (length-take-le _ c.args.text (omega arith))

pub returns : goal.returns
unfolding accepting part
returns c =
    let a = c.args in
    c.both-2.ensures ∙ ap (λ (x : Bool). a.opened && x) (c.both.ensures ∙ ap (λ (x : Bool). eqb (a.lc % 16) 0 && x) c.sealed-good.ensures)
