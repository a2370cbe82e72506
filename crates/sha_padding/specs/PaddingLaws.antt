-- The padded message by its bytes: k solves the standard's equation and is the least that does, the length is a whole number of blocks, and
-- which byte stands at an index. Assumes nothing.
use Rattle.std.specs.Prelude.{◌≡◌, List, ◌∷◌, ◌++◌, ℕ, suc, ◌+◌, ◌-◌, ◌*◌, ◌/◌, ◌%◌, ◌<◌, ◌≤◌, get_or, replicate}
use Rattle.std.proofs.Common.{ap, ◌∙◌, arith, get_or-append-add}
use Rattle.std.proofs.Math.ListN.{length, length-append, get_or-append, get_or-eq_default}
use Rattle.std.proofs.lemmas.List.{length-replicate, get_or-replicate}
use Rattle.sha_padding.specs.Padding.{zero_bits, be64, pad}
use Rattle.sha_padding.specs.Parsing.{blocks}

pub zero_bits-solves : (l : ℕ) → (l + 1 + zero_bits l) % 512 ≡ 448
zero_bits-solves l = omega arith

pub zero_bits-least : (l k : ℕ) → (l + 1 + k) % 512 ≡ 448 → zero_bits l ≤ k
zero_bits-least l k h = omega arith

pub zero_bits-small : (l : ℕ) → zero_bits l < 512
zero_bits-small l = omega arith

-- the zero bytes between 0x80 and the length, of a message of n bytes
abbrev pub zero_bytes : ℕ → ℕ
zero_bytes n = (zero_bits (8 * n) - 7) / 8

-- after the seven that 0x80 has, the zero bits are whole bytes
pub zero_bits-whole : (n : ℕ) → zero_bits (8 * n) ≡ 7 + 8 * zero_bytes n
zero_bits-whole n = omega arith

pub past : (s t : List ℕ) (i j : ℕ) → i ≡ length s + j → get_or (s ++ t) i 0 ≡ get_or t j 0
past s t i j e = ap (λ (n : ℕ). get_or (s ++ t) n 0) e ∙ get_or-append-add s t j 0

module _ (m : List ℕ) where
  abbrev zeros : List ℕ
  zeros = replicate (zero_bytes (length m)) 0

  abbrev tail : List ℕ
  tail = zeros ++ be64 (8 * length m)

  zeros-long : length zeros ≡ zero_bytes (length m)
  zeros-long = length-replicate {A = ℕ} (zero_bytes (length m)) 0

  pub length-pad : length (pad m) ≡ length m + 9 + zero_bytes (length m)
  unfolding pad
  length-pad =
      omega (arith, length-append m (0x80 ∷ tail), length-append zeros (be64 (8 * length m)), zeros-long)

  pub length-blocks : length (pad m) ≡ 64 * blocks m
  length-blocks = omega (arith, length-pad)

  pub blocks-count : blocks m ≡ length m / 64 + 1 + (length m % 64 + 8) / 64
  blocks-count = omega (arith, length-pad)

  -- the message
  pub pad-in : (i : ℕ) → i < length m → get_or (pad m) i 0 ≡ get_or m i 0
  unfolding pad
  pad-in i h = get_or-append m (0x80 ∷ tail) 0 i h

  -- the bit 1
  pub pad-one : (i : ℕ) → i ≡ length m → get_or (pad m) i 0 ≡ 0x80
  unfolding pad
  pad-one i e = past m (0x80 ∷ tail) i 0 (omega arith)

  beyond : (i j : ℕ) → i ≡ length m + suc j → get_or (pad m) i 0 ≡ get_or tail j 0
  unfolding pad
  beyond i j e = past m (0x80 ∷ tail) i (suc j) e

  -- the zero bits
  pub pad-zero : (i : ℕ) → length m < i → i < length m + 1 + zero_bytes (length m) → get_or (pad m) i 0 ≡ 0
  pad-zero i h l =
      beyond i (i - length m - 1) (omega arith)
      ∙ get_or-append zeros (be64 (8 * length m)) 0 (i - length m - 1) (omega (arith, zeros-long))
      ∙ get_or-replicate (zero_bytes (length m)) (i - length m - 1) 0 0 (omega arith)

  -- the length in bits
  pub pad-length : (i j : ℕ) → i ≡ length m + 1 + zero_bytes (length m) + j → get_or (pad m) i 0 ≡ get_or (be64 (8 * length m)) j 0
  pad-length i j e =
      beyond i (zero_bytes (length m) + j) (omega arith)
      ∙ past zeros (be64 (8 * length m)) (zero_bytes (length m) + j) j (omega (arith, zeros-long))

  -- nothing past the last block
  pub pad-past : (i : ℕ) → length (pad m) ≤ i → get_or (pad m) i 0 ≡ 0
  pad-past i h = get_or-eq_default (pad m) 0 h
