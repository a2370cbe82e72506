-- What is done to a word is done to each of its bytes. The bytes are variables, f 0 to f 3. Assumes nothing.
use Rattle.std.specs.Prelude.{◌≡◌, Bool, eqb}
use Rattle.std.proofs.Common.{sym, ap, ◌∙◌, add-mul, mul_right_comm, mul-div_cancel, mod-lt, zero-lt-suc, arith, eqb→eq, pow_pos}
use Rattle.std.proofs.Math.Path.{ap₂}
use Prim.Native.Nat.{ℕ, zero, suc, ◌+◌, ◌-◌, ◌*◌, ◌/◌, ◌%◌, ◌^◌, ◌<◌, ◌≤◌}
use Rattle.std.proofs.Math.Pow.{high_ones}
use Rattle.std.specs.Int.Bits.{bit_and, bit_xor, xor_lt}
use Rattle.std.proofs.lemmas.Nat.{and_block, xor_block, and_mask, and_shr}
use Rattle.std.proofs.lemmas.Nat.Bits.{and_high}
use Rattle.octets.specs.Tests.{below_at}
use Rattle.field.specs.Field.{x_times}
use Rattle.column.specs.Word.{word_of, byte_at}

pub byte-lt : (w i : ℕ) → byte_at w i < 256
byte-lt w zero = mod-lt w (zero-lt-suc 255)
byte-lt w (suc i) = byte-lt (w / 256) i

-- a number below 2^32 is the word of its bytes
pub eta : (w : ℕ) → w < 2 ^ 32 → w ≡ word_of (byte_at w)
eta w h = omega arith

pub word-by : {f g : ℕ → ℕ} → ((i : ℕ) → i < 4 → f i ≡ g i) → word_of f ≡ word_of g
word-by e = let p = e 0 (omega arith) in let q = e 1 (omega arith) in let r = e 2 (omega arith) in let s = e 3 (omega arith) in cc

-- the bytes of a word are those that it was made of
pub byte_of : (f : ℕ → ℕ) → ((i : ℕ) → i < 4 → f i < 256) → (i : ℕ) → i < 4 → byte_at (word_of f) i ≡ f i
byte_of f h = from (h 0 (omega arith)) (h 1 (omega arith)) (h 2 (omega arith)) (h 3 (omega arith))
  where
    from : f 0 < 256 → f 1 < 256 → f 2 < 256 → f 3 < 256 → (i : ℕ) → i < 4 → byte_at (word_of f) i ≡ f i
    from a b c d zero l = omega arith
    from a b c d (suc zero) l = omega arith
    from a b c d (suc (suc zero)) l = omega arith
    from a b c d (suc (suc (suc zero))) l = omega arith
    from a b c d (suc (suc (suc (suc i)))) l = omega arith

-- a word times a number, byte by byte
scale : (f : ℕ → ℕ) (m : ℕ) → word_of f * m ≡ word_of (λ i. f i * m)
scale f m =
    step ((f 3 * 256 + f 2) * 256 + f 1) (f 0)
    ∙ ap (λ (x : ℕ). x * 256 + f 0 * m) (step (f 3 * 256 + f 2) (f 1) ∙ ap (λ (x : ℕ). x * 256 + f 1 * m) (step (f 3) (f 2)))
  where
    step : (x y : ℕ) → (x * 256 + y) * m ≡ x * m * 256 + y * m
    step x y = add-mul (x * 256) y m ∙ ap (λ (z : ℕ). z + y * m) (mul_right_comm x 256 m)

-- an operation that acts on runs of digits apart
module _ (op : ℕ → ℕ → ℕ) (block : (k a b r s : ℕ) → r < 2 ^ k → s < 2 ^ k → op (a * 2 ^ k + r) (b * 2 ^ k + s) ≡ op a b * 2 ^ k + op r s) where
  each : (f g : ℕ → ℕ) → ((i : ℕ) → f i < 256) → ((i : ℕ) → g i < 256) → op (word_of f) (word_of g) ≡ word_of (λ i. op (f i) (g i))
  each f g h k =
      block 8 ((f 3 * 256 + f 2) * 256 + f 1) ((g 3 * 256 + g 2) * 256 + g 1) (f 0) (g 0) (h 0) (k 0)
      ∙ ap (λ (x : ℕ). x * 256 + op (f 0) (g 0))
      (block 8 (f 3 * 256 + f 2) (g 3 * 256 + g 2) (f 1) (g 1) (h 1) (k 1)
      ∙ ap (λ (x : ℕ). x * 256 + op (f 1) (g 1)) (block 8 (f 3) (g 3) (f 2) (g 2) (h 2) (k 2)))

-- exclusive or
pub xor-word : (f g : ℕ → ℕ) → ((i : ℕ) → f i < 256) → ((i : ℕ) → g i < 256) → bit_xor (word_of f) (word_of g) ≡ word_of (λ i. bit_xor (f i) (g i))
xor-word = each bit_xor xor_block

pub xor_bytes : (v w : ℕ) → v < 2 ^ 32 → w < 2 ^ 32 → bit_xor v w ≡ word_of (λ i. bit_xor (byte_at v i) (byte_at w i))
xor_bytes v w hv hw = ap₂ bit_xor (eta v hv) (eta w hw) ∙ xor-word (byte_at v) (byte_at w) (byte-lt v) (byte-lt w)

-- {02} • x and {04} • x by the digits of x; the second is computed at every byte
by_2 : (x : ℕ) → x < 256 → bit_xor (x % 128 * 2) (x / 128 % 2 * 0x1b) ≡ x_times x
by_2 x h = let e : x / 128 % 2 ≡ x / 128 = omega arith in ap (λ (y : ℕ). bit_xor (x % 128 * 2) (y * 0x1b)) e

corrected : ℕ → ℕ
corrected v = bit_xor v (v * 2) * 9

fours : ℕ → Bool
fours x = eqb (bit_xor (x % 64 * 4) (corrected (x / 64 % 4))) (x_times (x_times x))

by_4 : (x : ℕ) → x < 256 → bit_xor (x % 64 * 4) (corrected (x / 64 % 4)) ≡ x_times (x_times x)
unfolding fours corrected
by_4 x h = eqb→eq (bit_xor (x % 64 * 4) (corrected (x / 64 % 4))) (x_times (x_times x)) (below_at fours 256 tt x h)

module _ (f : ℕ → ℕ) (h : (i : ℕ) → f i < 256) where
  -- rotation by n bytes
  pub turn : (n : ℕ) → n < 4 → word_of f / 256 ^ n + word_of f % 256 ^ n * 256 ^ (4 - n) ≡ word_of (λ i. f ((i + n) % 4))
  turn zero l = omega arith
  turn (suc zero) l = omega (arith, h 0)
  turn (suc (suc zero)) l = omega (arith, h 0, h 1)
  turn (suc (suc (suc zero))) l = omega (arith, h 0, h 1, h 2)
  turn (suc (suc (suc (suc n)))) l = omega arith

  -- j digits of each byte, behind the k lowest
  digits : (j k : ℕ) → 2 ^ (j + k) ≤ 256 → bit_and (word_of f / 2 ^ k) (word_of (λ i. 2 ^ j - 1)) ≡ word_of (λ i. f i / 2 ^ k % 2 ^ j)
  digits j k l =
      let m : ℕ = word_of (λ i. 2 ^ j - 1) in
      ap (bit_and (word_of f / 2 ^ k)) (sym (mul-div_cancel m (pow_pos k)))
      ∙ sym (and_shr (word_of f) (m * 2 ^ k) k)
      ∙ ap (λ (x : ℕ). x / 2 ^ k)
      (ap (bit_and (word_of f)) (scale (λ i. 2 ^ j - 1) (2 ^ k))
      ∙ each bit_and and_block f (λ i. (2 ^ j - 1) * 2 ^ k) h (λ i. omega (arith, high_ones j k, pow_pos k, pow_pos (j + k)))
      ∙ word-by (λ i _. ap (bit_and (f i)) (sym (high_ones j k)) ∙ and_high (f i) j k)
      ∙ sym (scale (λ i. f i / 2 ^ k % 2 ^ j) (2 ^ k)))
      ∙ mul-div_cancel (word_of (λ i. f i / 2 ^ k % 2 ^ j)) (pow_pos k)

  -- the k low digits of each byte
  low : (k : ℕ) → 2 ^ k ≤ 256 → bit_and (word_of f) (word_of (λ i. 2 ^ k - 1)) ≡ word_of (λ i. f i % 2 ^ k)
  low k l = each bit_and and_block f (λ i. 2 ^ k - 1) h (λ i. omega (arith, pow_pos k)) ∙ word-by (λ i _. and_mask (f i) k)

  -- times {02}: the seven low bits of each byte twice, and {1b} where bit 7 is set
  pub times-2 : bit_xor (bit_and (word_of f) 0x7f7f7f7f * 2) (bit_and (word_of f / 128) 0x01010101 * 0x1b) ≡ word_of (λ i. x_times (f i))
  times-2 =
      ap₂ bit_xor (ap (λ (x : ℕ). x * 2) (low 7 (omega arith)) ∙ scale (λ i. f i % 128) 2)
      (ap (λ (x : ℕ). x * 0x1b) (digits 1 7 (omega arith)) ∙ scale (λ i. f i / 128 % 2) 0x1b)
      ∙ xor-word (λ i. f i % 128 * 2) (λ i. f i / 128 % 2 * 0x1b) (λ i. omega arith) (λ i. omega arith)
      ∙ word-by (λ i _. by_2 (f i) (h i))

  -- times {04}: the six low bits four times, and for bits 6 and 7, as a number v, v ⊕ 2v nine times
  pub times-4 : bit_xor (bit_and (word_of f) 0x3f3f3f3f * 4) (bit_xor (bit_and (word_of f / 64) 0x03030303) (bit_and (word_of f / 64) 0x03030303 * 2) * 9) ≡ word_of (λ i. x_times (x_times (f i)))
  unfolding corrected
  times-4 =
      let d : ℕ → ℕ = λ i. f i / 64 % 4 in
      let v : bit_and (word_of f / 64) 0x03030303 ≡ word_of d = digits 2 6 (omega arith) in
      let x : (i : ℕ) → bit_xor (d i) (d i * 2) < 8 = λ i. xor_lt 3 (d i) (d i * 2) (omega arith) (omega arith) in
      ap₂ bit_xor (ap (λ (y : ℕ). y * 4) (low 6 (omega arith)) ∙ scale (λ i. f i % 64) 4)
      (ap (λ (y : ℕ). y * 9) (ap₂ bit_xor v (ap (λ (y : ℕ). y * 2) v ∙ scale d 2) ∙ xor-word d (λ i. d i * 2) (λ i. omega arith) (λ i. omega arith))
      ∙ scale (λ i. bit_xor (d i) (d i * 2)) 9)
      ∙ xor-word (λ i. f i % 64 * 4) (λ i. corrected (d i)) (λ i. omega arith) (λ i. omega (arith, x i))
      ∙ word-by (λ i _. by_4 (f i) (h i))
