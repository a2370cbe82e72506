-- A state by its bytes, and that each step takes blocks to blocks. Assumes nothing.
use Rattle.std.specs.Prelude.{◌≡◌, refl, List, [], ◌∷◌, ℕ, zero, suc, ◌+◌, ◌-◌, ◌*◌, ◌%◌, ◌<◌, T, ltb, length, get_or}
use Rattle.std.proofs.Common.{sym, ◌∙◌, arith, ltb→lt}
use Rattle.std.specs.Int.Bits.{bit_xor}
use Rattle.octets.specs.Bytes.{Bytes, Block}
use Rattle.octets.specs.Lists.{cons, tabled}
use Rattle.field.specs.Matrix.{row_times}
use Rattle.field.specs.Linear.{row_times-lt, xor-byte}
use Rattle.sbox.specs.SubBytes.{sbox}
use Rattle.sbox.specs.InvSubBytes.{inv_sbox}
use Rattle.sbox.proofs.Undo.{sbox-lt, inv_sbox-lt}
use Rattle.rounds.specs.State.{cell, state}
use Rattle.rounds.specs.Cipher.{sub_bytes, shift_rows, columns_times, add_round_key}
use Rattle.rounds.specs.InvCipher.{inv_sub_bytes, inv_shift_rows}

-- a list of sixteen is the state of its bytes
pub eta : (s : List ℕ) → length s ≡ 16 → s ≡ state (cell s)
eta s e = tabled (λ i. get_or s i 0) 16 0 s 0 (omega arith) (λ i h. refl)

-- two states are equal where their bytes are
pub same16 : {a0 b0 a1 b1 a2 b2 a3 b3 a4 b4 a5 b5 a6 b6 a7 b7 a8 b8 a9 b9 a10 b10 a11 b11 a12 b12 a13 b13 a14 b14 a15 b15 : ℕ} →
    a0 ≡ b0 → a1 ≡ b1 → a2 ≡ b2 → a3 ≡ b3 → a4 ≡ b4 → a5 ≡ b5 → a6 ≡ b6 → a7 ≡ b7 → a8 ≡ b8 → a9 ≡ b9 → a10 ≡ b10 → a11 ≡ b11 → a12 ≡ b12 → a13 ≡ b13 → a14 ≡ b14 → a15 ≡ b15 →
    ◌≡◌ {A = List ℕ} (a0 ∷ a1 ∷ a2 ∷ a3 ∷ a4 ∷ a5 ∷ a6 ∷ a7 ∷ a8 ∷ a9 ∷ a10 ∷ a11 ∷ a12 ∷ a13 ∷ a14 ∷ a15 ∷ []) (b0 ∷ b1 ∷ b2 ∷ b3 ∷ b4 ∷ b5 ∷ b6 ∷ b7 ∷ b8 ∷ b9 ∷ b10 ∷ b11 ∷ b12 ∷ b13 ∷ b14 ∷ b15 ∷ [])
same16 p0 p1 p2 p3 p4 p5 p6 p7 p8 p9 p10 p11 p12 p13 p14 p15 = cons p0 (cons p1 (cons p2 (cons p3 (cons p4 (cons p5 (cons p6 (cons p7 (cons p8 (cons p9 (cons p10 (cons p11 (cons p12 (cons p13 (cons p14 (cons p15 refl)))))))))))))))

pub ext : (f g : ℕ → ℕ → ℕ) → ((r c : ℕ) → r < 4 → c < 4 → f r c ≡ g r c) → state f ≡ state g
ext f g h =
    same16 (at 0 0 tt tt) (at 1 0 tt tt) (at 2 0 tt tt) (at 3 0 tt tt) (at 0 1 tt tt) (at 1 1 tt tt) (at 2 1 tt tt) (at 3 1 tt tt)
    (at 0 2 tt tt) (at 1 2 tt tt) (at 2 2 tt tt) (at 3 2 tt tt) (at 0 3 tt tt) (at 1 3 tt tt) (at 2 3 tt tt) (at 3 3 tt tt)
  where
    at : (r c : ℕ) → T (ltb r 4) → T (ltb c 4) → f r c ≡ g r c
    at r c p q = h r c (ltb→lt r 4 p) (ltb→lt c 4 q)

-- a step on each byte, and one that undoes it
pub each-undone : (f g : ℕ → ℕ) → ((k : ℕ) → k < 256 → g (f k) ≡ k) → (s : List ℕ) → Block s → state (λ r c. g (cell (state (λ r c. f (cell s r c))) r c)) ≡ s
each-undone f g u s b =
    same16 (at 0) (at 1) (at 2) (at 3) (at 4) (at 5) (at 6) (at 7) (at 8) (at 9) (at 10) (at 11) (at 12) (at 13) (at 14) (at 15)
    ∙ sym (eta s b.long)
  where
    at : (i : ℕ) → g (f (get_or s i 0)) ≡ get_or s i 0
    at i = u (get_or s i 0) (b.byte i)

all_small : List ℕ → Type 0
all_small [] = Unit
all_small (x ∷ s) = (x < 256) × all_small s

small_at : (s : List ℕ) → all_small s → Bytes s
unfolding all_small
small_at [] t i = omega arith
small_at (x ∷ s) t zero = t.0
small_at (x ∷ s) t (suc i) = small_at s t.1 i

pub made : (f : ℕ → ℕ → ℕ) → ((r c : ℕ) → f r c < 256) → Block (state f)
unfolding all_small
made f h =
    record {
      long = refl;
      byte =
          small_at (state f)
          (h 0 0, (h 1 0, (h 2 0, (h 3 0, (h 0 1, (h 1 1, (h 2 1, (h 3 1, (h 0 2, (h 1 2, (h 2 2, (h 3 2, (h 0 3, (h 1 3, (h 2 3, (h 3 3, tt))))))))))))))));
    }

module _ (s : List ℕ) (b : Bytes s) where
  at : (r c : ℕ) → cell s r c < 256
  at r c = b (r + 4 * c)

  pub sub-block : Block (sub_bytes s)
  sub-block = made (λ r c. sbox (cell s r c)) (λ r c. sbox-lt (cell s r c) (at r c))

  pub inv-sub-block : Block (inv_sub_bytes s)
  inv-sub-block = made (λ r c. inv_sbox (cell s r c)) (λ r c. inv_sbox-lt (cell s r c) (at r c))

  pub shift-block : Block (shift_rows s)
  shift-block = made (λ r c. cell s r ((c + r) % 4)) (λ r c. at r ((c + r) % 4))

  pub inv-shift-block : Block (inv_shift_rows s)
  inv-shift-block = made (λ r c. cell s r ((c + (4 - r)) % 4)) (λ r c. at r ((c + (4 - r)) % 4))

  pub columns-block : (a₀ a₁ a₂ a₃ : ℕ) → Block (columns_times a₀ a₁ a₂ a₃ s)
  columns-block a₀ a₁ a₂ a₃ =
      made (λ r c. row_times a₀ a₁ a₂ a₃ (cell s r c) (cell s ((r + 1) % 4) c) (cell s ((r + 2) % 4) c) (cell s ((r + 3) % 4) c))
      (λ r c. row_times-lt a₀ a₁ a₂ a₃ (cell s r c) (cell s ((r + 1) % 4) c) (cell s ((r + 2) % 4) c) (cell s ((r + 3) % 4) c) (at r c) (at ((r + 1) % 4) c) (at ((r + 2) % 4) c) (at ((r + 3) % 4) c))

  pub key-block : (k : List ℕ) → Bytes k → Block (add_round_key s k)
  key-block k kb = made (λ r c. bit_xor (cell s r c) (cell k r c)) (λ r c. xor-byte (at r c) (kb (r + 4 * c)))
