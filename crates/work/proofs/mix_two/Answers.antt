-- `mix_two` meets its contract: the weights of two bytes. Assumes nothing.
-- the number by its two bytes
use Prim.Native.Nat.{ℕ, ◌+◌, ◌*◌, ◌/◌, ◌%◌, ◌^◌}
use mathlib.Core.Path.{◌≡◌, sym, ap, ◌∙◌}
use mathlib.Core.List.{[], ◌∷◌}
use native.Mathlib.Omega.{arith}
use mir.Syntax.{w32}
use mir.Val.{Fits}
use Rattle.work.specs.Weights.{weight, weighed, ones, mixed-weighed}
use Rattle.std.proofs.Common.{rules}
use Rattle.work.proofs.mix_two.Goals as goal

split : (s v : ℕ) → 66049 * s + v + v / 256 + 258 ≡ weight 2 * s + (weighed (v / 256 ∷ v % 256 ∷ []) + ones 2)
split s v = omega arith

pub returns : goal.returns
returns c =
    let v = c.args.v in
    let s : Fits w32 c.args.s = search rules in
    rw (c.from.ensures, c.from-2.ensures, c.from-3.ensures)
    (ap (λ (n : ℕ). n % 2 ^ 32) (split c.args.s v) ∙ sym (mixed-weighed c.args.s (v / 256 ∷ v % 256 ∷ []) s.fits))
