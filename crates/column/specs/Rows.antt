-- The rows of the two matrices from exclusive ors and XTIMES, as a word's bytes have them. Assumes nothing.
use Rattle.std.specs.Prelude.{◌≡◌, ℕ, ◌<◌}
use Rattle.std.proofs.Math.Path.{sym}
use Rattle.std.proofs.Common.{ap, ap₂, ◌∙◌}
use Rattle.std.specs.Int.Bits.{bit_xor, xor_self}
use Rattle.std.proofs.lemmas.Nat.{xor_comm}
use Rattle.octets.specs.Xor.{xor_assoc, left_comm}
use Rattle.field.specs.Field.{x_times}
use Rattle.field.specs.Matrix.{row_times}
use Rattle.field.specs.Linear.{x_times-lt, x_times-xor, xor-byte, mul-1, mul-2, mul-3, mul-9, mul-b, mul-d, mul-e}

-- what any commutative and associative operation gives
module _ (op : ℕ → ℕ → ℕ) (assoc : (a b c : ℕ) → op (op a b) c ≡ op a (op b c)) (comm : (a b : ℕ) → op a b ≡ op b a) where
  left : (a b c : ℕ) → op a (op b c) ≡ op b (op a c)
  left = left_comm op assoc comm

  mixed : (a2 b b2 r : ℕ) → op (op a2 b2) (op b r) ≡ op a2 (op (op b b2) r)
  mixed a2 b b2 r = simp (assoc, left)

  -- where it also cancels
  module _ (cancel : (a b : ℕ) → op a (op a b) ≡ b) where
    inverse : (a2 a4 a8 b b2 b4 b8 c c4 c8 d d4 d8 : ℕ) →
        op (op a2 (op a8 c8)) (op (op (op b (op b4 d4)) (op b2 (op b8 d8))) (op (op c (op c4 a4)) (op d (op d4 b4))))
        ≡ op (op a2 (op a4 a8)) (op (op b (op b2 b8)) (op (op c (op c4 c8)) (op d d8)))
    inverse a2 a4 a8 b b2 b4 b8 c c4 c8 d d4 d8 = simp (assoc, comm, left, cancel)

-- ({02} {03} {01} {01}), by one XTIMES
module _ (a b c d : ℕ) where
  by-2-3-1-1 : bit_xor (x_times a) (bit_xor (bit_xor b (x_times b)) (bit_xor c d)) ≡ row_times 2 3 1 1 a b c d
  unfolding row_times
  by-2-3-1-1 = sym (ap₂ bit_xor (mul-2 a) (ap₂ bit_xor (mul-3 b) (ap₂ bit_xor (mul-1 c) (mul-1 d))))

  pub mix-row : a < 256 → b < 256 → bit_xor (x_times (bit_xor a b)) (bit_xor b (bit_xor c d)) ≡ row_times 2 3 1 1 a b c d
  mix-row ha hb =
      ap (λ (x : ℕ). bit_xor x (bit_xor b (bit_xor c d))) (x_times-xor a b ha hb)
      ∙ mixed bit_xor xor_assoc xor_comm (x_times a) b (x_times b) (bit_xor c d)
      ∙ by-2-3-1-1

-- {04} • x
abbrev x4 : ℕ → ℕ
x4 x = x_times (x_times x)

-- x ⊕ {04} • (x ⊕ y)
abbrev pub plus_four : ℕ → ℕ → ℕ
plus_four x y = bit_xor x (x4 (bit_xor x y))

module _ (x y : ℕ) (hx : x < 256) (hy : y < 256) where
  x4-xor : x4 (bit_xor x y) ≡ bit_xor (x4 x) (x4 y)
  x4-xor = ap x_times (x_times-xor x y hx hy) ∙ x_times-xor (x_times x) (x_times y) (x_times-lt x hx) (x_times-lt y hy)

  x4-lt : x4 x < 256
  x4-lt = x_times-lt (x_times x) (x_times-lt x hx)

  four : plus_four x y ≡ bit_xor x (bit_xor (x4 x) (x4 y))
  four = ap (bit_xor x) x4-xor

module _ (x y : ℕ) (hx : x < 256) (hy : y < 256) where
  eight : x_times (plus_four x y) ≡ bit_xor (x_times x) (bit_xor (x_times (x4 x)) (x_times (x4 y)))
  eight =
      ap x_times (four x y hx hy)
      ∙ x_times-xor x (bit_xor (x4 x) (x4 y)) hx (xor-byte (x4-lt x y hx hy) (x4-lt y x hy hx))
      ∙ ap (bit_xor (x_times x)) (x_times-xor (x4 x) (x4 y) (x4-lt x y hx hy) (x4-lt y x hy hx))

cancelled : (a b : ℕ) → bit_xor a (bit_xor a b) ≡ b
cancelled a b = sym (xor_assoc a a b) ∙ ap (λ (x : ℕ). bit_xor x b) (xor_self a)

-- ({0e} {0b} {0d} {09}) = ({02} {03} {01} {01}) ({05} {00} {04} {00})
pub inv-row : (a b c d : ℕ) → a < 256 → b < 256 → c < 256 → d < 256 →
    row_times 2 3 1 1 (plus_four a c) (plus_four b d) (plus_four c a) (plus_four d b) ≡ row_times 0xe 0xb 0xd 9 a b c d
unfolding row_times
inv-row a b c d ha hb hc hd =
    sym (by-2-3-1-1 (plus_four a c) (plus_four b d) (plus_four c a) (plus_four d b))
    ∙ ap₂ bit_xor (eight a c ha hc)
    (ap₂ bit_xor (ap₂ bit_xor (four b d hb hd) (eight b d hb hd)) (ap₂ bit_xor (four c a hc ha) (four d b hd hb)))
    ∙ inverse bit_xor xor_assoc xor_comm cancelled (x_times a) (x4 a) (x_times (x4 a)) b (x_times b) (x4 b) (x_times (x4 b)) c (x4 c) (x_times (x4 c)) d (x4 d) (x_times (x4 d))
    ∙ sym (ap₂ bit_xor (mul-e a) (ap₂ bit_xor (mul-b b) (ap₂ bit_xor (mul-d c) (mul-9 d))))
