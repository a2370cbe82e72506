-- `no_zero` meets its contract: a place past the end leaves nothing. Assumes nothing.
use native.Mathlib.Omega.{arith}
use lib.Seq.{take_all}
use Rattle.std.proofs.Common.{ℕ, ◌-◌, length, drop, length-drop, ap, ◌∙◌}
use Rattle.std.proofs.lemmas.List.{drop_min}
use Rattle.frame.specs.Declines.{no_zero}
use Rattle.frame.proofs.no_zero.Goals as goal

pub returns : goal.returns
returns c =
    let s = c.args.s.now in
    let m = c.min.result in
    c.has_no_zero.ensures
    ∙ ap no_zero (take_all (length s - m) (drop m s) (omega (arith, length-drop m s)) ∙ ap (λ (n : ℕ). drop n s) c.min.ensures ∙ drop_min c.args.from s)
