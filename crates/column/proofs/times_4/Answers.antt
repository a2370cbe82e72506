-- `column::times_4` meets its contract, byte by byte. Assumes nothing.
use mathlib.Core.Path.{◌≡◌, ap, ◌∙◌}
use Prim.Native.Nat.{ℕ, ◌*◌, ◌/◌, ◌^◌, ◌<◌}
use native.Mathlib.Omega.{arith}
use lib.Bits.{bit_and, bit_xor, and_le_r, xor_lt}
use Rattle.column.specs.Word.{word_of, byte_at}
use Rattle.column.specs.Laws.{byte-lt, eta, times-4}
use Rattle.std.proofs.Common.{rules}
use Rattle.column.proofs.times_4.Goals as goal

pub overflow_mul-result : goal.overflow_mul-result
overflow_mul-result c = record { fits = omega (arith, and_le_r c.args.t 0x3f3f3f3f) }

pub overflow_mul-result-2 : goal.overflow_mul-result-2
overflow_mul-result-2 c = record { fits = omega (arith, and_le_r (c.args.t / 64) 0x03030303) }

pub overflow_mul-result-3 : goal.overflow_mul-result-3
overflow_mul-result-3 c =
    let high = bit_and (c.args.t / 64) 0x03030303 in
    let small : high < 2 ^ 26 = omega (arith, and_le_r (c.args.t / 64) 0x03030303) in
    record { fits = omega (arith, xor_lt 27 high (high * 2) (omega arith) (omega arith)) }

pub returns : goal.returns
returns c =
    let t = c.args.t in
    let e : t ≡ word_of (byte_at t) = eta t (search rules) in
    ap (λ (x : ℕ). bit_xor (bit_and x 0x3f3f3f3f * 4) (bit_xor (bit_and (x / 64) 0x03030303) (bit_and (x / 64) 0x03030303 * 2) * 9)) e
    ∙ times-4 (byte_at t) (byte-lt t)
