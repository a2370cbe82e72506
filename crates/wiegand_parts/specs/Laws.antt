-- Facility and number of a Wiegand number, by its record's bytes. Assumes nothing.
use Rattle.std.specs.Prelude.{◌≡◌, List, [], ◌∷◌, ℕ, ◌+◌, ◌*◌, ◌/◌, ◌%◌, ◌<◌, eqb, length, get_or}
use Rattle.std.proofs.Common.{sym, ap, ap₂, ◌∙◌, arith, eqb→eq}
use Rattle.octets.specs.Lists.{part}
use Rattle.octets.specs.Tests.{below_at}
use Rattle.binary.specs.Binary.{value, binary, bits_of}
use Rattle.binary.specs.Places.{by-places}
use Rattle.wiegand_parts.specs.WiegandParts.{facility_of, number_of}

-- eight bits of a number x, which halved again and again is x1 to x7, in front of other bits
joined : (x x1 x2 x3 x4 x5 x6 x7 b0 b1 b2 b3 b4 b5 b6 rest : ℕ) →
    x ≡ 2 * x1 + b0 → x1 ≡ 2 * x2 + b1 → x2 ≡ 2 * x3 + b2 → x3 ≡ 2 * x4 + b3 → x4 ≡ 2 * x5 + b4 → x5 ≡ 2 * x6 + b5 → x6 ≡ 2 * x7 + b6 →
    x7 * 16384 + (b6 * 8192 + (b5 * 4096 + (b4 * 2048 + (b3 * 1024 + (b2 * 512 + (b1 * 256 + (b0 * 128 + rest))))))) ≡ x * 128 + rest
joined x x1 x2 x3 x4 x5 x6 x7 b0 b1 b2 b3 b4 b5 b6 rest e0 e1 e2 e3 e4 e5 e6 = omega arith

eight_bits : (c rest : ℕ) → c < 256 →
    c / 128 % 2 * 16384 + (c / 64 % 2 * 8192 + (c / 32 % 2 * 4096 + (c / 16 % 2 * 2048 + (c / 8 % 2 * 1024 + (c / 4 % 2 * 512 + (c / 2 % 2 * 256 + (c / 1 % 2 * 128 + rest))))))) ≡ c * 128 + rest
eight_bits c rest h = joined c (c / 2) (c / 4) (c / 8) (c / 16) (c / 32) (c / 64) (c / 128 % 2) (c / 1 % 2) (c / 2 % 2) (c / 4 % 2) (c / 8 % 2) (c / 16 % 2) (c / 32 % 2) (c / 64 % 2) rest (omega arith) (omega arith) (omega arith) (omega arith) (omega arith) (omega arith) (omega arith)

-- the seven high bits of a byte, computed
seven_high : ℕ → ℕ
seven_high c = c / 128 % 2 * 64 + (c / 64 % 2 * 32 + (c / 32 % 2 * 16 + (c / 16 % 2 * 8 + (c / 8 % 2 * 4 + (c / 4 % 2 * 2 + (c / 2 % 2 * 1 + 0))))))

seven_bits : (c : ℕ) → c < 256 → seven_high c ≡ c / 2
unfolding seven_high
seven_bits c h = eqb→eq (seven_high c) (c / 2) (below_at (λ (k : ℕ). eqb (seven_high k) (k / 2)) 256 tt c h)

last_bit : (a : ℕ) → a / 1 % 2 ≡ a % 2
last_bit a = omega arith

facility-of : (a b c d : ℕ) → b < 256 → facility_of (a ∷ b ∷ c ∷ d ∷ []) ≡ a % 2 * 128 + b / 2
unfolding facility_of seven_high value part binary bits_of
facility-of a b c d h = ap₂ (λ (x y : ℕ). x * 128 + y) (last_bit a) (seven_bits b h)

number-of : (a b c d : ℕ) → c < 256 → d < 256 → number_of (a ∷ b ∷ c ∷ d ∷ []) ≡ (b % 2 * 128 + c / 2) * 256 + (c % 2 * 128 + d / 2)
unfolding number_of seven_high value part binary bits_of
number-of a b c d h k =
    ap₂ (λ (x y : ℕ). x * 32768 + y) (last_bit b) (eight_bits c _ h ∙ ap (λ (y : ℕ). c * 128 + y) (seven_bits d k))
    ∙ omega arith

module _ (r : List ℕ) (four : length r ≡ 4) where
  pub facility-bytes : get_or r 1 0 < 256 → facility_of r ≡ get_or r 0 0 % 2 * 128 + get_or r 1 0 / 2
  facility-bytes h = ap facility_of (sym (by-places 4 r four)) ∙ facility-of (get_or r 0 0) (get_or r 1 0) (get_or r 2 0) (get_or r 3 0) h

  pub number-bytes : get_or r 2 0 < 256 → get_or r 3 0 < 256 → number_of r ≡ (get_or r 1 0 % 2 * 128 + get_or r 2 0 / 2) * 256 + (get_or r 2 0 % 2 * 128 + get_or r 3 0 / 2)
  number-bytes h k = ap number_of (sym (by-places 4 r four)) ∙ number-of (get_or r 0 0) (get_or r 1 0) (get_or r 2 0) (get_or r 3 0) h k
