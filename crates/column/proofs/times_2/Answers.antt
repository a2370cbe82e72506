-- `column::times_2` meets its contract, byte by byte. Assumes nothing.
use mathlib.Core.Path.{ap, ◌∙◌}
use Prim.Native.Nat.{ℕ, ◌*◌, ◌/◌}
use native.Mathlib.Omega.{arith}
use lib.Bits.{bit_and, bit_xor, and_le_r}
use Rattle.column.specs.Word.{byte_at}
use Rattle.column.specs.Laws.{byte-lt, eta, times-2}
use Rattle.std.proofs.Common.{rules}
use Rattle.column.proofs.times_2.Goals as goal

pub overflow_mul-result : goal.overflow_mul-result
overflow_mul-result c = record { fits = omega (arith, and_le_r c.args.t 0x7f7f7f7f) }

pub overflow_mul-result-2 : goal.overflow_mul-result-2
overflow_mul-result-2 c = record { fits = omega (arith, and_le_r (c.args.t / 128) 0x01010101) }

pub returns : goal.returns
returns c =
    let t = c.args.t in
    ap (λ (x : ℕ). bit_xor (bit_and x 0x7f7f7f7f * 2) (bit_and (x / 128) 0x01010101 * 0x1b)) (eta t (search rules)) ∙ times-2 (byte_at t) (byte-lt t)
