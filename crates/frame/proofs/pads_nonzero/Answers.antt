-- `pads_nonzero` meets its contract: the pad bytes are those that the loop looks at. Assumes nothing.
use mathlib.Core.Path.{◌≡◌, sym, ap, ◌∙◌}
use mathlib.Core.Bool.{Bool}
use mathlib.Core.List.{List}
use Prim.Native.Nat.{ℕ}
use lib.ListN.{drop}
use Rattle.plaid_types.specs.Keys.{str1_length}
use Rattle.frame.specs.Declines.{no_zero, pad_bytes}
use Rattle.frame.proofs.pads_nonzero.Goals as goal

pads : (l : ℕ) (s : List ℕ) {from : ℕ} {r : Bool} → from ≡ str1_length l → r ≡ no_zero (drop from s) → r ≡ no_zero (pad_bytes l s)
unfolding pad_bytes
pads l s e q = q ∙ ap (λ (n : ℕ). no_zero (drop n s)) e

pub returns-then-l-eq16 : goal.returns-then-l-eq16
returns-then-l-eq16 c =
    let a = c.args in
    pads a.l a.fresh.now (c.str1_length.ensures ∙ ap str1_length (sym c.if-l-eq16.true)) c.no_zero.ensures

pub returns : goal.returns
returns c =
    let a = c.args in
    pads a.l a.fresh.now c.str1_length-2.ensures c.no_zero-2.ensures
