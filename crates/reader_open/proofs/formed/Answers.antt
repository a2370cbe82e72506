-- `formed` meets its contract: what the calls ensure is put into the definition. Assumes nothing.
use Prim.Native.Nat.{ℕ, ◌+◌, ◌-◌}
use mathlib.Core.Path.{◌≡◌, ap, ap₂, ◌∙◌}
use mathlib.Core.Bool.{Bool, ◌&&◌}
use native.Mathlib.Omega.{arith}
use lib.Dec.{eqb}
use lib.ListN.{get_or}
use Rattle.octets.specs.Lists.{part}
use Rattle.frame.specs.Declines.{no_zero}
use Rattle.plaid_types.specs.Keys.{str1_length}
use Rattle.plaid_types.specs.KeyLaws.{str1-most}
use Rattle.reader_open.specs.Open.{formed}
use Rattle.std.proofs.Common.{rules}
use Rattle.reader_open.proofs.formed.Goals as goal

pub overflow_sub-n : goal.overflow_sub-n
unfolding str1_length
overflow_sub-n c = search rules

pub returns : goal.returns
unfolding formed
returns c =
    let b = c.args.b.now in
    let k = c.str1_length-n in
    let zero : 2 + (253 - k.result) ≡ 255 - str1_length c.args.l = omega (arith, k.ensures, str1-most c.args.l c.requires.0) in
    let pads = c.no_zero-pads.ensures ∙ ap no_zero c.part_of.ensures ∙ ap (λ (n : ℕ). no_zero (part b 2 (253 - n))) k.ensures in
    let end = c.both-end.ensures ∙ ap₂ (λ (x : Bool) (z : ℕ). x && eqb (get_or b z 0) 0) pads zero in
    c.both-2.ensures
    ∙ ap (λ (x : Bool). eqb (get_or b 0 0) 0 && x) (c.both.ensures ∙ ap (λ (x : Bool). eqb (get_or b 1 0) 2 && x) end)
