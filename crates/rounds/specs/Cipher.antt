-- FIPS 197, section 5.1: CIPHER(). A round key is a row of sixteen bytes, w[4 · round .. 4 · round + 3].
use Rattle.std.specs.Prelude.{List, [], ℕ, zero, suc, ◌+◌, ◌-◌, ◌%◌, get_or}
use Rattle.std.specs.Int.Bits.{bit_xor}
use Rattle.field.specs.Matrix.{row_times}
use Rattle.sbox.specs.SubBytes.{sbox}
use Rattle.rounds.specs.State.{cell, state}

-- 5.1.1: "SBOX is applied independently to each byte of the state"
abbrev pub sub_bytes : List ℕ → List ℕ
sub_bytes s = state (λ r c. sbox (cell s r c))

-- 5.1.2: "the bytes in the last three rows of the state are cyclically shifted": s'[r, c] = s[r, (c + r) mod 4]
abbrev pub shift_rows : List ℕ → List ℕ
shift_rows s = state (λ r c. cell s r ((c + r) % 4))

-- 4.3: each column times the matrix whose row 0 is (a₀ a₁ a₂ a₃) and whose row r is that, turned r places to the right
abbrev pub columns_times : ℕ → ℕ → ℕ → ℕ → List ℕ → List ℕ
columns_times a₀ a₁ a₂ a₃ s = state (λ r c. row_times a₀ a₁ a₂ a₃ (cell s r c) (cell s ((r + 1) % 4) c) (cell s ((r + 2) % 4) c) (cell s ((r + 3) % 4) c))

-- 5.1.3: "multiplies each of the four columns of the state by a single fixed matrix", with row 0 = ({02} {03} {01} {01})
abbrev pub mix_columns : List ℕ → List ℕ
mix_columns s = columns_times 2 3 1 1 s

-- 5.1.4: "a round key is combined with the state by applying the bitwise XOR operation"
abbrev pub add_round_key : List ℕ → List ℕ → List ℕ
add_round_key s k = state (λ r c. bit_xor (cell s r c) (cell k r c))

-- one round, with its round key
unfoldable pub round : List ℕ → List ℕ → List ℕ
round s k = add_round_key (mix_columns (shift_rows (sub_bytes s))) k

-- rounds 1 to n, with the round keys of w
unfoldable pub rounds : List (List ℕ) → ℕ → List ℕ → List ℕ
rounds w zero s = s
rounds w (suc n) s = round (rounds w n s) (get_or w (suc n) [])

-- the last round has no MIXCOLUMNS
unfoldable pub last_round : List ℕ → List ℕ → List ℕ
last_round s k = add_round_key (shift_rows (sub_bytes s)) k

-- algorithm 1: CIPHER(in, Nr, w)
unfoldable pub cipher : ℕ → List (List ℕ) → List ℕ → List ℕ
cipher nr w s = last_round (rounds w (nr - 1) (add_round_key s (get_or w 0 []))) (get_or w nr [])
