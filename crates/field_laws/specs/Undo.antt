-- The matrices of MixColumns, (02 03 01 01), and of InvMixColumns, (0e 0b 0d 09), undo one another. Assumes nothing.
use Rattle.std.specs.Prelude.{◌≡◌, Bool, ℕ, ◌<◌, T, eqb}
use Rattle.std.proofs.Math.Path.{ap, ap₂}
use Rattle.std.proofs.Common.{◌∙◌}
use Rattle.std.proofs.Math.Dec.{eqb→eq}
use Rattle.std.specs.Int.Bits.{bit_xor, xor_zero_r}
use Rattle.octets.specs.Tests.{both, both_left, both_right, below, below_at}
use Rattle.octets.specs.Xor.{xor-turn}
use Rattle.field.specs.Field.{mul}
use Rattle.field.specs.Matrix.{row_times}
use Rattle.field.specs.Linear.{mul-xor, mul-lt, xor-byte}

-- two matrices: the first has row 0 = (p₀ p₁ p₂ p₃), the second (q₀ q₁ q₂ q₃)
module _ (p₀ p₁ p₂ p₃ q₀ q₁ q₂ q₃ : ℕ) where
  -- row 0 of their product, entry by entry, times k
  entry₀ : ℕ → ℕ
  entry₀ k = bit_xor (mul p₀ (mul q₀ k)) (bit_xor (mul p₁ (mul q₃ k)) (bit_xor (mul p₂ (mul q₂ k)) (mul p₃ (mul q₁ k))))

  entry₁ : ℕ → ℕ
  entry₁ k = bit_xor (mul p₀ (mul q₁ k)) (bit_xor (mul p₁ (mul q₀ k)) (bit_xor (mul p₂ (mul q₃ k)) (mul p₃ (mul q₂ k))))

  entry₂ : ℕ → ℕ
  entry₂ k = bit_xor (mul p₀ (mul q₂ k)) (bit_xor (mul p₁ (mul q₁ k)) (bit_xor (mul p₂ (mul q₀ k)) (mul p₃ (mul q₃ k))))

  entry₃ : ℕ → ℕ
  entry₃ k = bit_xor (mul p₀ (mul q₃ k)) (bit_xor (mul p₁ (mul q₂ k)) (bit_xor (mul p₂ (mul q₁ k)) (mul p₃ (mul q₀ k))))

  -- the product is the unit matrix, as it acts on k
  unit : ℕ → Bool
  unit k = both (eqb (entry₀ k) k) (both (eqb (entry₁ k) 0) (both (eqb (entry₂ k) 0) (eqb (entry₃ k) 0)))

  -- one row of the second matrix, times a coefficient of the first
  row-mul : (k a b c d : ℕ) → a < 256 → b < 256 → c < 256 → d < 256 →
      mul k (row_times q₀ q₁ q₂ q₃ a b c d) ≡ bit_xor (mul k (mul q₀ a)) (bit_xor (mul k (mul q₁ b)) (bit_xor (mul k (mul q₂ c)) (mul k (mul q₃ d))))
  unfolding row_times
  row-mul k a b c d ha hb hc hd =
      let a' = mul-lt q₀ a ha in
      let b' = mul-lt q₁ b hb in
      let c' = mul-lt q₂ c hc in
      let d' = mul-lt q₃ d hd in
      mul-xor k (mul q₀ a) (bit_xor (mul q₁ b) (bit_xor (mul q₂ c) (mul q₃ d))) a' (xor-byte b' (xor-byte c' d'))
      ∙ ap (bit_xor (mul k (mul q₀ a)))
      (mul-xor k (mul q₁ b) (bit_xor (mul q₂ c) (mul q₃ d)) b' (xor-byte c' d')
      ∙ ap (bit_xor (mul k (mul q₁ b))) (mul-xor k (mul q₂ c) (mul q₃ d) c' d'))

  module _ (units : (k : ℕ) → k < 256 → T (unit k)) where
    rest₁ : (k : ℕ) → k < 256 → T (both (eqb (entry₁ k) 0) (both (eqb (entry₂ k) 0) (eqb (entry₃ k) 0)))
    unfolding unit
    rest₁ k h = both_right (eqb (entry₀ k) k) _ (units k h)

    rest₂ : (k : ℕ) → k < 256 → T (both (eqb (entry₂ k) 0) (eqb (entry₃ k) 0))
    rest₂ k h = both_right (eqb (entry₁ k) 0) _ (rest₁ k h)

    is₀ : (k : ℕ) → k < 256 → entry₀ k ≡ k
    unfolding unit
    is₀ k h = eqb→eq (entry₀ k) k (both_left (eqb (entry₀ k) k) _ (units k h))

    is₁ : (k : ℕ) → k < 256 → entry₁ k ≡ 0
    is₁ k h = eqb→eq (entry₁ k) 0 (both_left (eqb (entry₁ k) 0) _ (rest₁ k h))

    is₂ : (k : ℕ) → k < 256 → entry₂ k ≡ 0
    is₂ k h = eqb→eq (entry₂ k) 0 (both_left (eqb (entry₂ k) 0) _ (rest₂ k h))

    is₃ : (k : ℕ) → k < 256 → entry₃ k ≡ 0
    is₃ k h = eqb→eq (entry₃ k) 0 (both_right (eqb (entry₂ k) 0) _ (rest₂ k h))

    undone : (a b c d : ℕ) → a < 256 → b < 256 → c < 256 → d < 256 →
        row_times p₀ p₁ p₂ p₃ (row_times q₀ q₁ q₂ q₃ a b c d) (row_times q₀ q₁ q₂ q₃ b c d a) (row_times q₀ q₁ q₂ q₃ c d a b) (row_times q₀ q₁ q₂ q₃ d a b c) ≡ a
    unfolding entry₀ entry₁ entry₂ entry₃ row_times
    undone a b c d ha hb hc hd =
        ap₂ bit_xor (row-mul p₀ a b c d ha hb hc hd)
        (ap₂ bit_xor (row-mul p₁ b c d a hb hc hd ha) (ap₂ bit_xor (row-mul p₂ c d a b hc hd ha hb) (row-mul p₃ d a b c hd ha hb hc)))
        ∙ xor-turn (mul p₀ (mul q₀ a)) (mul p₁ (mul q₃ a)) (mul p₂ (mul q₂ a)) (mul p₃ (mul q₁ a))
        (mul p₀ (mul q₁ b)) (mul p₁ (mul q₀ b)) (mul p₂ (mul q₃ b)) (mul p₃ (mul q₂ b))
        (mul p₀ (mul q₂ c)) (mul p₁ (mul q₁ c)) (mul p₂ (mul q₀ c)) (mul p₃ (mul q₃ c))
        (mul p₀ (mul q₃ d)) (mul p₁ (mul q₂ d)) (mul p₂ (mul q₁ d)) (mul p₃ (mul q₀ d))
        ∙ ap₂ bit_xor (is₀ a ha) (ap₂ bit_xor (is₁ b hb) (ap₂ bit_xor (is₂ c hc) (is₃ d hd)))
        ∙ xor_zero_r a

pub inv-mix : (a b c d : ℕ) → a < 256 → b < 256 → c < 256 → d < 256 →
    row_times 0xe 0xb 0xd 9 (row_times 2 3 1 1 a b c d) (row_times 2 3 1 1 b c d a) (row_times 2 3 1 1 c d a b) (row_times 2 3 1 1 d a b c) ≡ a
unfolding entry₀ entry₁ entry₂ entry₃ unit
inv-mix =
    let units-inv : T (below (unit 0xe 0xb 0xd 9 2 3 1 1) 256) = tt in
    undone 0xe 0xb 0xd 9 2 3 1 1 (below_at (unit 0xe 0xb 0xd 9 2 3 1 1) 256 units-inv)

pub mix-inv : (a b c d : ℕ) → a < 256 → b < 256 → c < 256 → d < 256 →
    row_times 2 3 1 1 (row_times 0xe 0xb 0xd 9 a b c d) (row_times 0xe 0xb 0xd 9 b c d a) (row_times 0xe 0xb 0xd 9 c d a b) (row_times 0xe 0xb 0xd 9 d a b c) ≡ a
unfolding entry₀ entry₁ entry₂ entry₃ unit
mix-inv =
    let units-mix : T (below (unit 2 3 1 1 0xe 0xb 0xd 9) 256) = tt in
    undone 2 3 1 1 0xe 0xb 0xd 9 (below_at (unit 2 3 1 1 0xe 0xb 0xd 9) 256 units-mix)
