-- FIPS 197, section 5.3: INVCIPHER().
use Rattle.std.specs.Prelude.{List, [], ℕ, zero, suc, ◌+◌, ◌-◌, ◌%◌, get_or}
use Rattle.sbox.specs.InvSubBytes.{inv_sbox}
use Rattle.rounds.specs.State.{cell, state}
use Rattle.rounds.specs.Cipher.{columns_times, add_round_key}

-- 5.3.1: s'[r, c] = s[r, (c − r) mod 4]
abbrev pub inv_shift_rows : List ℕ → List ℕ
inv_shift_rows s = state (λ r c. cell s r ((c + (4 - r)) % 4))

-- 5.3.2: "the inverse of SBOX is applied to each byte of the state"
abbrev pub inv_sub_bytes : List ℕ → List ℕ
inv_sub_bytes s = state (λ r c. inv_sbox (cell s r c))

-- 5.3.3: each column times the matrix with row 0 = ({0e} {0b} {0d} {09})
abbrev pub inv_mix_columns : List ℕ → List ℕ
inv_mix_columns s = columns_times 0xe 0xb 0xd 9 s

-- one round, with its round key
unfoldable pub inv_round : List ℕ → List ℕ → List ℕ
inv_round s k = inv_mix_columns (add_round_key (inv_sub_bytes (inv_shift_rows s)) k)

-- rounds n down to 1, with the round keys of w
unfoldable pub inv_rounds : List (List ℕ) → ℕ → List ℕ → List ℕ
inv_rounds w zero s = s
inv_rounds w (suc n) s = inv_rounds w n (inv_round s (get_or w (suc n) []))

-- the last round has no INVMIXCOLUMNS
unfoldable pub inv_last_round : List ℕ → List ℕ → List ℕ
inv_last_round s k = add_round_key (inv_sub_bytes (inv_shift_rows s)) k

-- algorithm 3: INVCIPHER(in, Nr, w)
unfoldable pub inv_cipher : ℕ → List (List ℕ) → List ℕ → List ℕ
inv_cipher nr w s = inv_last_round (inv_rounds w (nr - 1) (add_round_key s (get_or w nr []))) (get_or w 0 [])
