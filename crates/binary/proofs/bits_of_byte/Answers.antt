-- `bits_of_byte` meets its contract: the powers of two, computed. Assumes nothing.
use mathlib.Core.Path.{◌≡◌, refl, ap}
use Prim.Native.Nat.{ℕ, ◌/◌, ◌%◌}
use native.Mathlib.Omega.{arith}
use Rattle.octets.specs.Lists.{cons}
use Rattle.binary.specs.Binary.{binary}
use Rattle.binary.proofs.bits_of_byte.Goals as goal

pub returns : goal.returns
unfolding binary
returns c =
    let b = c.args.b in
    let e : b ≡ b / 1 = omega arith in
    cons refl (cons refl (cons refl (cons refl (cons refl (cons refl (cons refl (cons (ap (λ (x : ℕ). x % 2) e) refl)))))))
