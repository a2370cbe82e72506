-- What is done to the four words of a state is done to the state that they mean. Assumes nothing.
use Rattle.std.specs.Prelude.{◌≡◌, List, ℕ, zero, suc, ◌+◌, ◌*◌, ◌%◌, ◌^◌, ◌<◌, get_or}
use Rattle.std.proofs.Common.{sym, ap, ◌∙◌, arith}
use Rattle.std.specs.Int.Bits.{bit_xor}
use Rattle.octets.specs.Bytes.{Block}
use Rattle.octets.specs.Lists.{table}
use Rattle.field.specs.Matrix.{row_times}
use Rattle.field.specs.Linear.{row_times-lt, xor-byte}
use Rattle.sbox.specs.Rule.{table_at}
use Rattle.column.specs.Word.{word_of, byte_at, word_times}
use Rattle.column.specs.Laws.{byte-lt, eta, byte_of, word-by, xor_bytes}
use Rattle.rounds.specs.declared.Columns.{Columns}
use Rattle.rounds.specs.State.{cell, state}
use Rattle.rounds.specs.Columns.{column_at, state_of}
use Rattle.rounds.specs.Cipher.{columns_times, add_round_key}
use Rattle.rounds.specs.Blocks.{ext, made}

-- each is a word
pub record Words (s : Columns) : Type 0 where
  pub w0 : s.c0 < 2 ^ 32
  pub w1 : s.c1 < 2 ^ 32
  pub w2 : s.c2 < 2 ^ 32
  pub w3 : s.c3 < 2 ^ 32

-- four words mean a block
state-block : (s : Columns) → Block (state_of s)
state-block s = made (λ r c. byte_at (column_at s c) r) (λ r c. byte-lt (column_at s c) r)

-- four words whose bytes are f's mean f's state
pub means : {s : Columns} (f : ℕ → ℕ → ℕ) → ((r c : ℕ) → r < 4 → c < 4 → f r c < 256) →
    s.c0 ≡ word_of (λ r. f r 0) → s.c1 ≡ word_of (λ r. f r 1) → s.c2 ≡ word_of (λ r. f r 2) → s.c3 ≡ word_of (λ r. f r 3) → state_of s ≡ state f
means {s} f h e₀ e₁ e₂ e₃ =
    ext (λ r c. byte_at (column_at s c) r) f
    (λ r c hr hc. ap (λ (w : ℕ). byte_at w r) (column c hc) ∙ byte_of (λ i. f i c) (λ i hi. h i c hi hc) r hr)
  where
    column : (c : ℕ) → c < 4 → column_at s c ≡ word_of (λ r. f r c)
    column zero l = e₀
    column (suc zero) l = e₁
    column (suc (suc zero)) l = e₂
    column (suc (suc (suc zero))) l = e₃
    column (suc (suc (suc (suc c)))) l = omega arith

module _ (s : Columns) where
  pub at_lt : (r c : ℕ) → cell (state_of s) r c < 256
  at_lt r c = (state-block s).byte (r + 4 * c)

  -- each column times a matrix: both mixings
  pub times : (a₀ a₁ a₂ a₃ : ℕ) {t : Columns} → t.c0 ≡ word_times a₀ a₁ a₂ a₃ s.c0 → t.c1 ≡ word_times a₀ a₁ a₂ a₃ s.c1 → t.c2 ≡ word_times a₀ a₁ a₂ a₃ s.c2 → t.c3 ≡ word_times a₀ a₁ a₂ a₃ s.c3 →
      state_of t ≡ columns_times a₀ a₁ a₂ a₃ (state_of s)
  unfolding word_times
  times a₀ a₁ a₂ a₃ e₀ e₁ e₂ e₃ =
      means (λ r c. row_times a₀ a₁ a₂ a₃ (cell (state_of s) r c) (cell (state_of s) ((r + 1) % 4) c) (cell (state_of s) ((r + 2) % 4) c) (cell (state_of s) ((r + 3) % 4) c))
      (λ r c _ _. row_times-lt a₀ a₁ a₂ a₃ (cell (state_of s) r c) (cell (state_of s) ((r + 1) % 4) c) (cell (state_of s) ((r + 2) % 4) c) (cell (state_of s) ((r + 3) % 4) c) (at_lt r c) (at_lt ((r + 1) % 4) c) (at_lt ((r + 2) % 4) c) (at_lt ((r + 3) % 4) c))
      e₀ e₁ e₂ e₃

  -- exclusive or, column by column
  pub added : (k : Columns) {t : Columns} → Words s → Words k →
      t.c0 ≡ bit_xor s.c0 k.c0 → t.c1 ≡ bit_xor s.c1 k.c1 → t.c2 ≡ bit_xor s.c2 k.c2 → t.c3 ≡ bit_xor s.c3 k.c3 →
      state_of t ≡ add_round_key (state_of s) (state_of k)
  added k hs hk e₀ e₁ e₂ e₃ =
      means (λ r c. bit_xor (cell (state_of s) r c) (cell (state_of k) r c)) (λ r c _ _. xor-byte (at_lt r c) ((state-block k).byte (r + 4 * c)))
      (e₀ ∙ xor_bytes s.c0 k.c0 hs.w0 hk.w0) (e₁ ∙ xor_bytes s.c1 k.c1 hs.w1 hk.w1)
      (e₂ ∙ xor_bytes s.c2 k.c2 hs.w2 hk.w2) (e₃ ∙ xor_bytes s.c3 k.c3 hs.w3 hk.w3)

  -- bytes looked up in f's table, row r of column c from column p r c
  pub looked : (f : ℕ → ℕ) → ((k : ℕ) → k < 256 → f k < 256) → (p : ℕ → ℕ → ℕ) {l : List ℕ} → l ≡ table f 256 0 → {t : Columns} →
      t.c0 ≡ word_of (λ r. get_or l (byte_at (column_at s (p r 0)) r) 0) → t.c1 ≡ word_of (λ r. get_or l (byte_at (column_at s (p r 1)) r) 0) →
      t.c2 ≡ word_of (λ r. get_or l (byte_at (column_at s (p r 2)) r) 0) → t.c3 ≡ word_of (λ r. get_or l (byte_at (column_at s (p r 3)) r) 0) →
      state_of t ≡ state (λ r c. f (byte_at (column_at s (p r c)) r))
  looked f h p {l} e e₀ e₁ e₂ e₃ =
      means (λ r c. f (byte_at (column_at s (p r c)) r)) (λ r c _ _. h (byte_at (column_at s (p r c)) r) (byte-lt (column_at s (p r c)) r))
      (e₀ ∙ by 0) (e₁ ∙ by 1) (e₂ ∙ by 2) (e₃ ∙ by 3)
    where
      by : (c : ℕ) → word_of (λ r. get_or l (byte_at (column_at s (p r c)) r) 0) ≡ word_of (λ r. f (byte_at (column_at s (p r c)) r))
      by c = word-by (λ r _. ap (λ (x : List ℕ). get_or x (byte_at (column_at s (p r c)) r) 0) e ∙ table_at f (byte_at (column_at s (p r c)) r) (byte-lt (column_at s (p r c)) r))

-- no other four words mean that state
pub one_state : {s t : Columns} → Words s → Words t → state_of s ≡ state_of t → s ≡ t
one_state {s} {t} hs ht e =
    same (column hs.w0 ht.w0 (at 0) (at 1) (at 2) (at 3)) (column hs.w1 ht.w1 (at 4) (at 5) (at 6) (at 7))
    (column hs.w2 ht.w2 (at 8) (at 9) (at 10) (at 11)) (column hs.w3 ht.w3 (at 12) (at 13) (at 14) (at 15))
  where
    at : (i : ℕ) → get_or (state_of s) i 0 ≡ get_or (state_of t) i 0
    at i = ap (λ (l : List ℕ). get_or l i 0) e

    column : {v w : ℕ} → v < 2 ^ 32 → w < 2 ^ 32 → byte_at v 0 ≡ byte_at w 0 → byte_at v 1 ≡ byte_at w 1 → byte_at v 2 ≡ byte_at w 2 → byte_at v 3 ≡ byte_at w 3 → v ≡ w
    column {v} {w} hv hw p q r s = let k : word_of (byte_at v) ≡ word_of (byte_at w) = cc in eta v hv ∙ k ∙ sym (eta w hw)

    same : {a b c d a' b' c' d' : ℕ} → a ≡ a' → b ≡ b' → c ≡ c' → d ≡ d' → ◌≡◌ {A = Columns} (record { c0 = a; c1 = b; c2 = c; c3 = d }) (record { c0 = a'; c1 = b'; c2 = c'; c3 = d' })
    same p q r s = cc
