-- `mix_prepared` meets its contract: the code is the definition, opened. Assumes nothing.
-- a product of two words, and a word more
use Prim.Native.Nat.{ℕ, ◌-◌, ◌*◌, ◌^◌, ◌<◌, ◌≤◌}
use native.Mathlib.Nat.{mul-le-mul_left}
use native.Mathlib.Omega.{arith}
use mir.Syntax.{w32}
use mir.Val.{Fits}
use Rattle.std.proofs.Common.{rules}
use Rattle.work.proofs.mix_prepared.Goals as goal

product : (a b : ℕ) → a < 2 ^ 32 → b < 2 ^ 32 → a * b ≤ (2 ^ 32 - 1) * (2 ^ 32 - 1)
product a b h l =
    let m : b ≤ 2 ^ 32 - 1 = omega arith in
    omega (arith, mul-le-mul_left a m)

pub overflow_mul-result : goal.overflow_mul-result
overflow_mul-result c =
    let a : Fits w32 c.args.l.weight = search rules in
    let s : Fits w32 c.args.s = search rules in
    rw (c.from.ensures, c.from-2.ensures) (record { fits = omega (arith, product c.args.l.weight c.args.s a.fits s.fits) })

pub overflow_add-result : goal.overflow_add-result
overflow_add-result c =
    let a : Fits w32 c.args.l.weight = search rules in
    let b : Fits w32 c.args.l.rest = search rules in
    let s : Fits w32 c.args.s = search rules in
    rw (c.from.ensures, c.from-2.ensures, c.from-3.ensures)
    (record { fits = omega (arith, product c.args.l.weight c.args.s a.fits s.fits, b.fits) })

pub returns : goal.returns
returns c = rw (c.from.ensures, c.from-2.ensures, c.from-3.ensures)
