-- INVCIPHER undoes CIPHER and CIPHER undoes INVCIPHER, for every number of rounds, every list of round keys and every block. Assumes nothing.
use Rattle.std.specs.Prelude.{◌≡◌}
use Rattle.std.proofs.Common.{sym, ◌∙◌}
use Rattle.std.proofs.Math.Path.{ap}
use mathlib.Core.List.{List, []}
use Prim.Native.Nat.{ℕ, zero, suc, ◌-◌, ◌<◌}
use Rattle.std.proofs.Math.ListN.{get_or}
use Rattle.std.specs.Int.Bits.{bit_xor}
use Rattle.octets.specs.Bytes.{Bytes, Block}
use Rattle.octets.specs.Xor.{xor-cancel}
use Rattle.field.specs.Matrix.{row_times}
use Rattle.field_laws.specs.Undo.{inv-mix, mix-inv}
use Rattle.sbox.specs.SubBytes.{sbox}
use Rattle.sbox.specs.InvSubBytes.{inv_sbox}
use Rattle.sbox.proofs.Undo.{inv-of-sbox, sbox-of-inv}
use Rattle.rounds.specs.State.{cell}
use Rattle.rounds.specs.Cipher.{sub_bytes, shift_rows, columns_times, mix_columns, add_round_key, round, rounds, last_round, cipher}
use Rattle.rounds.specs.InvCipher.{inv_sub_bytes, inv_shift_rows, inv_mix_columns, inv_round, inv_rounds, inv_last_round, inv_cipher}
use Rattle.rounds.specs.Blocks.{eta, same16, ext, each-undone, sub-block, inv-sub-block, shift-block, inv-shift-block, columns-block, key-block}

-- two matrices of which the first undoes the second
columns-undone : (p₀ p₁ p₂ p₃ q₀ q₁ q₂ q₃ : ℕ) →
    ((a b c d : ℕ) → a < 256 → b < 256 → c < 256 → d < 256 →
    row_times p₀ p₁ p₂ p₃ (row_times q₀ q₁ q₂ q₃ a b c d) (row_times q₀ q₁ q₂ q₃ b c d a) (row_times q₀ q₁ q₂ q₃ c d a b) (row_times q₀ q₁ q₂ q₃ d a b c) ≡ a) →
    (s : List ℕ) → Block s → columns_times p₀ p₁ p₂ p₃ (columns_times q₀ q₁ q₂ q₃ s) ≡ s
columns-undone p₀ p₁ p₂ p₃ q₀ q₁ q₂ q₃ u s b =
    same16 (at 0 1 2 3) (at 1 2 3 0) (at 2 3 0 1) (at 3 0 1 2) (at 4 5 6 7) (at 5 6 7 4) (at 6 7 4 5) (at 7 4 5 6)
    (at 8 9 10 11) (at 9 10 11 8) (at 10 11 8 9) (at 11 8 9 10) (at 12 13 14 15) (at 13 14 15 12) (at 14 15 12 13) (at 15 12 13 14)
    ∙ sym (eta s b.long)
  where
    g : ℕ → ℕ
    g i = get_or s i 0

    at : (i j k l : ℕ) →
        row_times p₀ p₁ p₂ p₃ (row_times q₀ q₁ q₂ q₃ (get_or s i 0) (get_or s j 0) (get_or s k 0) (get_or s l 0)) (row_times q₀ q₁ q₂ q₃ (get_or s j 0) (get_or s k 0) (get_or s l 0) (get_or s i 0))
        (row_times q₀ q₁ q₂ q₃ (get_or s k 0) (get_or s l 0) (get_or s i 0) (get_or s j 0)) (row_times q₀ q₁ q₂ q₃ (get_or s l 0) (get_or s i 0) (get_or s j 0) (get_or s k 0)) ≡ get_or s i 0
    at i j k l = u (get_or s i 0) (get_or s j 0) (get_or s k 0) (get_or s l 0) (b.byte i) (b.byte j) (b.byte k) (b.byte l)

module _ (s : List ℕ) (b : Block s) where
  inv-sub : inv_sub_bytes (sub_bytes s) ≡ s
  inv-sub = each-undone sbox inv_sbox inv-of-sbox s b

  sub-inv : sub_bytes (inv_sub_bytes s) ≡ s
  sub-inv = each-undone inv_sbox sbox sbox-of-inv s b

  inv-shift : inv_shift_rows (shift_rows s) ≡ s
  inv-shift = sym (eta s b.long)

  shift-inv : shift_rows (inv_shift_rows s) ≡ s
  shift-inv = sym (eta s b.long)

  inv-columns : inv_mix_columns (mix_columns s) ≡ s
  inv-columns = columns-undone 0xe 0xb 0xd 9 2 3 1 1 inv-mix s b

  columns-inv : mix_columns (inv_mix_columns s) ≡ s
  columns-inv = columns-undone 2 3 1 1 0xe 0xb 0xd 9 mix-inv s b

  pub key_twice : (k : List ℕ) → add_round_key (add_round_key s k) k ≡ s
  key_twice k =
      ext (λ r c. bit_xor (bit_xor (cell s r c) (cell k r c)) (cell k r c)) (cell s) (λ r c p q. xor-cancel (cell s r c) (cell k r c)) ∙ sym (eta s b.long)

-- the halves of a round that have no key: SHIFTROWS of SUBBYTES, and INVSUBBYTES of INVSHIFTROWS
abbrev half : List ℕ → List ℕ
half s = shift_rows (sub_bytes s)

abbrev inv_half : List ℕ → List ℕ
inv_half s = inv_sub_bytes (inv_shift_rows s)

module _ (s : List ℕ) (b : Block s) where
  half-block : Block (half s)
  half-block = shift-block (sub_bytes s) (sub-block s b.byte).byte

  inv-half-block : Block (inv_half s)
  inv-half-block = inv-sub-block (inv_shift_rows s) (inv-shift-block s b.byte).byte

  inv-of-half : inv_half (half s) ≡ s
  inv-of-half = ap inv_sub_bytes (inv-shift (sub_bytes s) (sub-block s b.byte)) ∙ inv-sub s b

  half-of-inv : half (inv_half s) ≡ s
  half-of-inv = ap shift_rows (sub-inv (inv_shift_rows s) (inv-shift-block s b.byte)) ∙ shift-inv s b

module _ (w : List (List ℕ)) (wb : (n : ℕ) → Bytes (get_or w n [])) where
  rounds-block : (n : ℕ) (s : List ℕ) → Block s → Block (rounds w n s)
  unfolding rounds round
  rounds-block zero s b = b
  rounds-block (suc n) s b =
      key-block (mix_columns (half (rounds w n s)))
      (columns-block (half (rounds w n s)) (half-block (rounds w n s) (rounds-block n s b)).byte 2 3 1 1).byte
      (get_or w (suc n) []) (wb (suc n))

  inv-round-block : (n : ℕ) (s : List ℕ) → Block s → Block (inv_round s (get_or w n []))
  unfolding inv_round
  inv-round-block n s b = columns-block (add_round_key (inv_half s) (get_or w n [])) (key-block (inv_half s) (inv-half-block s b).byte (get_or w n []) (wb n)).byte 0xe 0xb 0xd 9

  inv-rounds-block : (n : ℕ) (s : List ℕ) → Block s → Block (inv_rounds w n s)
  unfolding inv_rounds
  inv-rounds-block zero s b = b
  inv-rounds-block (suc n) s b = inv-rounds-block n (inv_round s (get_or w (suc n) [])) (inv-round-block (suc n) s b)

  -- n rounds and the next half round, undone
  there : (n : ℕ) (s : List ℕ) → Block s → inv_half (inv_rounds w n (half (rounds w n s))) ≡ s
  unfolding rounds round inv_rounds inv_round
  there zero s b = inv-of-half s b
  there (suc n) s b =
      let h : List ℕ = half (rounds w n s) in
      let hb : Block h = half-block (rounds w n s) (rounds-block n s b) in
      let k : List ℕ = get_or w (suc n) [] in
      let m : Block (mix_columns h) = columns-block h hb.byte 2 3 1 1 in
      ap (λ (x : List ℕ). inv_half (inv_rounds w n (inv_mix_columns (add_round_key x k))))
      (inv-of-half (add_round_key (mix_columns h) k) (key-block (mix_columns h) m.byte k (wb (suc n))))
      ∙ ap (λ (x : List ℕ). inv_half (inv_rounds w n (inv_mix_columns x))) (key_twice (mix_columns h) m k)
      ∙ ap (λ (x : List ℕ). inv_half (inv_rounds w n x)) (inv-columns h hb)
      ∙ there n s b

  columns-back : (s k : List ℕ) → Block (add_round_key (inv_half s) k) → mix_columns (inv_round s k) ≡ add_round_key (inv_half s) k
  unfolding inv_round
  columns-back s k kb = columns-inv (add_round_key (inv_half s) k) kb

  back : (n : ℕ) (s : List ℕ) → Block s → half (rounds w n (inv_half (inv_rounds w n s))) ≡ s
  unfolding rounds round inv_rounds
  back zero s b = half-of-inv s b
  back (suc n) s b =
      let k : List ℕ = get_or w (suc n) [] in
      let z : List ℕ = inv_half s in
      let zb : Block z = inv-half-block s b in
      let kb : Block (add_round_key z k) = key-block z zb.byte k (wb (suc n)) in
      ap (λ (x : List ℕ). half (add_round_key (mix_columns x) k)) (back n (inv_round s k) (inv-round-block (suc n) s b))
      ∙ ap half (ap (λ (x : List ℕ). add_round_key x k) (columns-back s k kb) ∙ key_twice z zb k)
      ∙ half-of-inv s b

  module _ (nr : ℕ) (s : List ℕ) (b : Block s) where
    first : Block (add_round_key s (get_or w 0 []))
    first = key-block s b.byte (get_or w 0 []) (wb 0)

    final : Block (add_round_key s (get_or w nr []))
    final = key-block s b.byte (get_or w nr []) (wb nr)

    pub inv_cipher-cipher : inv_cipher nr w (cipher nr w s) ≡ s
    unfolding inv_cipher inv_last_round cipher last_round
    inv_cipher-cipher =
        let x : List ℕ = rounds w (nr - 1) (add_round_key s (get_or w 0 [])) in
        let xb : Block x = rounds-block (nr - 1) (add_round_key s (get_or w 0 [])) first in
        ap (λ (y : List ℕ). add_round_key (inv_half (inv_rounds w (nr - 1) y)) (get_or w 0 [])) (key_twice (half x) (half-block x xb) (get_or w nr []))
        ∙ ap (λ (y : List ℕ). add_round_key y (get_or w 0 [])) (there (nr - 1) (add_round_key s (get_or w 0 [])) first)
        ∙ key_twice s b (get_or w 0 [])

    pub cipher-inv_cipher : cipher nr w (inv_cipher nr w s) ≡ s
    unfolding inv_cipher inv_last_round cipher last_round
    cipher-inv_cipher =
        let x : List ℕ = inv_rounds w (nr - 1) (add_round_key s (get_or w nr [])) in
        let xb : Block x = inv-rounds-block (nr - 1) (add_round_key s (get_or w nr [])) final in
        ap (λ (y : List ℕ). add_round_key (half (rounds w (nr - 1) y)) (get_or w nr [])) (key_twice (inv_half x) (inv-half-block x xb) (get_or w 0 []))
        ∙ ap (λ (y : List ℕ). add_round_key y (get_or w nr [])) (back (nr - 1) (add_round_key s (get_or w nr [])) final)
        ∙ key_twice s b (get_or w nr [])

    -- what is enciphered or deciphered is a block
    pub cipher-block : Block (cipher nr w s)
    unfolding cipher last_round
    cipher-block =
        let x : List ℕ = rounds w (nr - 1) (add_round_key s (get_or w 0 [])) in
        key-block (half x) (half-block x (rounds-block (nr - 1) (add_round_key s (get_or w 0 [])) first)).byte (get_or w nr []) (wb nr)

    pub inv_cipher-block : Block (inv_cipher nr w s)
    unfolding inv_cipher inv_last_round
    inv_cipher-block =
        let x : List ℕ = inv_rounds w (nr - 1) (add_round_key s (get_or w nr [])) in
        key-block (inv_half x) (inv-half-block x (inv-rounds-block (nr - 1) (add_round_key s (get_or w nr [])) final)).byte (get_or w 0 []) (wb 0)
