-- Multiplication in the field is linear, and its products are bytes. Assumes nothing.
use Rattle.std.specs.Prelude.{◌≡◌, refl, ℕ, zero, suc, ◌*◌, ◌/◌, ◌%◌, ◌<◌}
use Rattle.std.proofs.Common.{ap, ap₂, ◌∙◌, zero-mul, one-mul, mod-lt, zero-lt-suc, arith}
use Rattle.std.specs.Int.Bits.{bit_xor, xor_zero_r}
use Rattle.std.proofs.lemmas.Nat.{xor_shr, xor_mod, xor_lt}
use Rattle.octets.specs.Xor.{xor-swap, xor-double, scale-left, scale-right}
use Rattle.field.specs.Field.{x_times, mul_digits, mul}
use Rattle.field.specs.Matrix.{row_times}

pub x_times-lt : (b : ℕ) → b < 256 → x_times b < 256
x_times-lt b h = xor_lt 8 (b % 128 * 2) (b / 128 * 0x1b) (omega arith) (omega arith)

-- XTIMES(b ⊕ c) = XTIMES(b) ⊕ XTIMES(c)
pub x_times-xor : (b c : ℕ) → b < 256 → c < 256 → x_times (bit_xor b c) ≡ bit_xor (x_times b) (x_times c)
x_times-xor b c hb hc =
    ap₂ bit_xor (ap (λ (x : ℕ). x * 2) (xor_mod b c 7) ∙ xor-double (b % 128) (c % 128))
    (ap (λ (x : ℕ). x * 0x1b) (xor_shr b c 7) ∙ scale-left (b / 128) (c / 128) 0x1b (omega arith) (omega arith))
    ∙ xor-swap (b % 128 * 2) (c % 128 * 2) (b / 128 * 0x1b) (c / 128 * 0x1b)

mul_digits-xor : (n b c d : ℕ) → c < 256 → d < 256 → mul_digits n b (bit_xor c d) ≡ bit_xor (mul_digits n b c) (mul_digits n b d)
mul_digits-xor zero b c d hc hd = refl
mul_digits-xor (suc n) b c d hc hd =
    ap₂ bit_xor (scale-right (b % 2) c d (mod-lt b (zero-lt-suc 1)))
    (ap (mul_digits n (b / 2)) (x_times-xor c d hc hd) ∙ mul_digits-xor n (b / 2) (x_times c) (x_times d) (x_times-lt c hc) (x_times-lt d hd))
    ∙ xor-swap (b % 2 * c) (b % 2 * d) (mul_digits n (b / 2) (x_times c)) (mul_digits n (b / 2) (x_times d))

-- b • (c ⊕ d) = (b • c) ⊕ (b • d)
pub mul-xor : (b c d : ℕ) → c < 256 → d < 256 → mul b (bit_xor c d) ≡ bit_xor (mul b c) (mul b d)
mul-xor b c d hc hd = mul_digits-xor 8 b c d hc hd

mul_digits-lt : (n b c : ℕ) → c < 256 → mul_digits n b c < 256
mul_digits-lt zero b c hc = zero-lt-suc 255
mul_digits-lt (suc n) b c hc = xor_lt 8 (b % 2 * c) (mul_digits n (b / 2) (x_times c)) (scaled (b % 2) (mod-lt b (zero-lt-suc 1))) (mul_digits-lt n (b / 2) (x_times c) (x_times-lt c hc))
  where
    scaled : (x : ℕ) → x < 2 → x * c < 256
    scaled zero h = omega arith
    scaled (suc zero) h = omega arith
    scaled (suc (suc x)) h = omega arith

pub mul-lt : (b c : ℕ) → c < 256 → mul b c < 256
mul-lt b c hc = mul_digits-lt 8 b c hc

pub xor-byte : {a b : ℕ} → a < 256 → b < 256 → bit_xor a b < 256
xor-byte {a} {b} ha hb = xor_lt 8 a b ha hb

pub row_times-lt : (a₀ a₁ a₂ a₃ b₀ b₁ b₂ b₃ : ℕ) → b₀ < 256 → b₁ < 256 → b₂ < 256 → b₃ < 256 → row_times a₀ a₁ a₂ a₃ b₀ b₁ b₂ b₃ < 256
unfolding row_times
row_times-lt a₀ a₁ a₂ a₃ b₀ b₁ b₂ b₃ h₀ h₁ h₂ h₃ = xor-byte (mul-lt a₀ b₀ h₀) (xor-byte (mul-lt a₁ b₁ h₁) (xor-byte (mul-lt a₂ b₂ h₂) (mul-lt a₃ b₃ h₃)))

-- a digit of the first factor at a time
mul_digits-zero : (n c : ℕ) → mul_digits n 0 c ≡ 0
mul_digits-zero zero c = refl
mul_digits-zero (suc n) c = ap₂ bit_xor (zero-mul c) (mul_digits-zero n (x_times c))

pub last : (n c : ℕ) → mul_digits (suc n) 1 c ≡ c
last n c = ap₂ bit_xor (one-mul c) (mul_digits-zero n (x_times c)) ∙ xor_zero_r c

pub even : (n b c : ℕ) → b % 2 ≡ 0 → mul_digits (suc n) b c ≡ mul_digits n (b / 2) (x_times c)
even n b c e = ap (λ (x : ℕ). bit_xor (x * c) (mul_digits n (b / 2) (x_times c))) e ∙ ap (λ (x : ℕ). bit_xor x (mul_digits n (b / 2) (x_times c))) (zero-mul c)

pub odd : (n b c : ℕ) → b % 2 ≡ 1 → mul_digits (suc n) b c ≡ bit_xor c (mul_digits n (b / 2) (x_times c))
odd n b c e = ap (λ (x : ℕ). bit_xor (x * c) (mul_digits n (b / 2) (x_times c))) e ∙ ap (λ (x : ℕ). bit_xor x (mul_digits n (b / 2) (x_times c))) (one-mul c)

-- the products by the coefficients of the two matrices, by XTIMES
module _ (c : ℕ) where
  pub mul-1 : mul 1 c ≡ c
  mul-1 = last 7 c

  pub mul-2 : mul 2 c ≡ x_times c
  mul-2 = even 7 2 c refl ∙ last 6 (x_times c)

  pub mul-3 : mul 3 c ≡ bit_xor c (x_times c)
  mul-3 = odd 7 3 c refl ∙ ap (bit_xor c) (last 6 (x_times c))

  by8 : mul_digits 6 2 (x_times (x_times c)) ≡ x_times (x_times (x_times c))
  by8 = even 5 2 (x_times (x_times c)) refl ∙ last 4 (x_times (x_times (x_times c)))

  by12 : mul_digits 6 3 (x_times (x_times c)) ≡ bit_xor (x_times (x_times c)) (x_times (x_times (x_times c)))
  by12 = odd 5 3 (x_times (x_times c)) refl ∙ ap (bit_xor (x_times (x_times c))) (last 4 (x_times (x_times (x_times c))))

  pub mul-9 : mul 9 c ≡ bit_xor c (x_times (x_times (x_times c)))
  mul-9 = odd 7 9 c refl ∙ ap (bit_xor c) (even 6 4 (x_times c) refl ∙ by8)

  pub mul-b : mul 0xb c ≡ bit_xor c (bit_xor (x_times c) (x_times (x_times (x_times c))))
  mul-b = odd 7 0xb c refl ∙ ap (bit_xor c) (odd 6 5 (x_times c) refl ∙ ap (bit_xor (x_times c)) by8)

  pub mul-d : mul 0xd c ≡ bit_xor c (bit_xor (x_times (x_times c)) (x_times (x_times (x_times c))))
  mul-d = odd 7 0xd c refl ∙ ap (bit_xor c) (even 6 6 (x_times c) refl ∙ by12)

  pub mul-e : mul 0xe c ≡ bit_xor (x_times c) (bit_xor (x_times (x_times c)) (x_times (x_times (x_times c))))
  mul-e = even 7 0xe c refl ∙ odd 6 7 (x_times c) refl ∙ ap (bit_xor (x_times c)) by12
