-- The two column mixings of a word, put together from its parts. Assumes nothing.
use Rattle.std.specs.Prelude.{◌≡◌}
use Rattle.std.proofs.Math.Path.{ap, ap₂}
use Rattle.std.proofs.Common.{◌∙◌, mod-lt, zero-lt-suc}
use Prim.Native.Nat.{ℕ, ◌+◌, ◌%◌, ◌^◌, ◌<◌}
use native.Mathlib.Omega.{arith}
use Rattle.std.specs.Int.Bits.{bit_xor}
use Rattle.field.specs.Field.{x_times}
use Rattle.field.specs.Matrix.{row_times}
use Rattle.field.specs.Linear.{x_times-lt, xor-byte}
use Rattle.column.specs.Word.{word_of, byte_at, turned, word_times}
use Rattle.column.specs.Laws.{byte-lt, byte_of, eta, word-by, xor-word}
use Rattle.column.specs.Rows.{mix-row, plus_four, inv-row}

in-word : (i : ℕ) → i % 4 < 4
in-word i = mod-lt i (zero-lt-suc 3)

row_by : {p q r s p' q' r' s' : ℕ} → p ≡ p' → q ≡ q' → r ≡ r' → s ≡ s' → row_times 2 3 1 1 p q r s ≡ row_times 2 3 1 1 p' q' r' s'
row_by a b c d = cc

module _ (t : ℕ) (l : t < 2 ^ 32) where
  -- a word added to t, and its bytes
  module _ {w : ℕ} (f : ℕ → ℕ) (h : (i : ℕ) → f i < 256) (e : w ≡ word_of f) where
    small : (i : ℕ) → bit_xor (byte_at t i) (f i) < 256
    small i = xor-byte (byte-lt t i) (h i)

    plus-at : (i : ℕ) → i < 4 → byte_at (bit_xor t w) i ≡ bit_xor (byte_at t i) (f i)
    plus-at i k =
        ap (λ (x : ℕ). byte_at x i) (ap₂ bit_xor (eta t l) e ∙ xor-word (byte_at t) f (byte-lt t) h)
        ∙ byte_of (λ j. bit_xor (byte_at t j) (f j)) (λ j _. small j) i k

  -- {02} • (a ⊕ b) ⊕ (b ⊕ (c ⊕ d)) in each row
  pub mixing : {next two twice : ℕ} → next ≡ turned 1 t → two ≡ word_of (λ i. x_times (byte_at (bit_xor t next) i)) → twice ≡ turned 2 (bit_xor t next) →
      bit_xor two (bit_xor next twice) ≡ word_times 2 3 1 1 t
  unfolding word_times
  mixing {next} {two} {twice} e₁ e₂ e₃ =
      let b : ℕ → ℕ = λ i. byte_at t ((i + 1) % 4) in
      let p : ℕ → ℕ = λ i. bit_xor (byte_at t i) (b i) in
      let hb : (i : ℕ) → b i < 256 = λ i. byte-lt t ((i + 1) % 4) in
      let hp : (i : ℕ) → p i < 256 = small b hb e₁ in
      let h2 : (i : ℕ) → x_times (p i) < 256 = λ i. x_times-lt (p i) (hp i) in
      let h3 : (i : ℕ) → p ((i + 2) % 4) < 256 = λ i. hp ((i + 2) % 4) in
      ap₂ bit_xor (e₂ ∙ word-by {g = λ i. x_times (p i)} (λ i k. ap x_times (plus-at b hb e₁ i k)))
      (ap₂ bit_xor e₁ (e₃ ∙ word-by {g = λ i. p ((i + 2) % 4)} (λ i k. plus-at b hb e₁ ((i + 2) % 4) (in-word (i + 2))))
      ∙ xor-word b (λ i. p ((i + 2) % 4)) hb h3)
      ∙ xor-word (λ i. x_times (p i)) (λ i. bit_xor (b i) (p ((i + 2) % 4))) h2 (λ i. xor-byte (hb i) (h3 i))
      ∙ word-by
      (λ i k.
      let n : ((i + 2) % 4 + 1) % 4 ≡ (i + 3) % 4 = omega arith in
      ap (λ (j : ℕ). bit_xor (x_times (p i)) (bit_xor (b i) (bit_xor (byte_at t ((i + 2) % 4)) (byte_at t j)))) n
      ∙ mix-row (byte_at t i) (b i) (byte_at t ((i + 2) % 4)) (byte_at t ((i + 3) % 4)) (byte-lt t i) (hb i))

  -- t ⊕ {04} • (t ⊕ t turned two places), mixed
  pub inv-mixing : {twice four : ℕ} → twice ≡ turned 2 t → four ≡ word_of (λ i. x_times (x_times (byte_at (bit_xor t twice) i))) →
      word_times 2 3 1 1 (bit_xor t four) ≡ word_times 0xe 0xb 0xd 9 t
  unfolding word_times
  inv-mixing {twice} {four} e₁ e₂ =
      let c : ℕ → ℕ = λ i. byte_at t ((i + 2) % 4) in
      let hc : (i : ℕ) → c i < 256 = λ i. byte-lt t ((i + 2) % 4) in
      let z : ℕ → ℕ = λ i. bit_xor (byte_at t i) (c i) in
      let h4 : (i : ℕ) → x_times (x_times (z i)) < 256 = λ i. x_times-lt (x_times (z i)) (x_times-lt (z i) (small c hc e₁ i)) in
      let four' : four ≡ word_of (λ i. x_times (x_times (z i))) = e₂ ∙ word-by (λ i k. ap (λ (x : ℕ). x_times (x_times x)) (plus-at c hc e₁ i k)) in
      let u : (n m : ℕ) → n < 4 → (n + 2) % 4 ≡ m → byte_at (bit_xor t four) n ≡ plus_four (byte_at t n) (byte_at t m) =
      λ n m k e. plus-at (λ i. x_times (x_times (z i))) h4 four' n k ∙ ap (λ (j : ℕ). plus_four (byte_at t n) (byte_at t j)) e in
      word-by
      (λ i k.
      row_by (u i ((i + 2) % 4) k (omega arith)) (u ((i + 1) % 4) ((i + 3) % 4) (in-word (i + 1)) (omega arith))
      (u ((i + 2) % 4) i (in-word (i + 2)) (omega arith)) (u ((i + 3) % 4) ((i + 1) % 4) (in-word (i + 3)) (omega arith))
      ∙ inv-row (byte_at t i) (byte_at t ((i + 1) % 4)) (c i) (byte_at t ((i + 3) % 4)) (byte-lt t i) (byte-lt t ((i + 1) % 4)) (hc i) (byte-lt t ((i + 3) % 4)))
