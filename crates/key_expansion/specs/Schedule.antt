-- The key schedule four words at a time: a word at its place among Nk, and the words that the next four are made of. Assumes nothing.
use Rattle.std.specs.Prelude.{◌≡◌, cond, List, [], ◌∷◌, ◌++◌, ℕ, ◌+◌, ◌-◌, eqb, ltb, replicate}
use Rattle.octets.specs.Tests.{both}
use Rattle.field.specs.Field.{x_times}
use Rattle.column.specs.Word.{byte_at}
use Rattle.rounds.specs.declared.Columns.{Columns}
use Rattle.key_expansion.specs.KeyExpansion.{word, rot_word, sub_word, xor_word, pick, round_keys}

-- the four bytes of a word
abbrev pub bytes_in : ℕ → List ℕ
bytes_in w = word (byte_at w)

-- `temp` for a word at place j of its Nk, with x the first byte of Rcon
unfoldable pub temp_at : ℕ → ℕ → ℕ → List ℕ → List ℕ
temp_at nk j x t =
    pick (eqb j 0) (xor_word (sub_word (rot_word t)) (x ∷ 0 ∷ 0 ∷ 0 ∷ []))
    (pick (both (ltb 6 nk) (eqb j 4)) (sub_word t) t)

-- the place behind the last of Nk is the first
abbrev pub place : ℕ → ℕ → ℕ
place nk j = cond (ltb j nk) j (j - nk)

-- four words of which the first stands at place j, an even one, from the four that stand Nk before them and the last word
pub record Next (nk j x : ℕ) (from : Columns) (last : ℕ) (r : Columns) : Type 0 where
  pub first : bytes_in r.c0 ≡ xor_word (bytes_in from.c0) (temp_at nk j x (bytes_in last))
  pub second : bytes_in r.c1 ≡ xor_word (bytes_in from.c1) (bytes_in r.c0)
  pub third : bytes_in r.c2 ≡ xor_word (bytes_in from.c2) (temp_at nk (place nk (j + 2)) x (bytes_in r.c1))
  pub fourth : bytes_in r.c3 ≡ xor_word (bytes_in from.c3) (bytes_in r.c2)

-- the last two words of a and the first two of b
abbrev pub straddled : Columns → Columns → Columns
straddled a b = record { c0 = a.c2; c1 = a.c3; c2 = b.c0; c3 = b.c1 }

-- of the last eight words, the four that stand Nk before the next four
abbrev pub source_of : ℕ → Columns → Columns → Columns
source_of nk older newer = cond (eqb nk 4) newer (cond (eqb nk 6) (straddled older newer) older)

-- the round key that the next four words complete
abbrev pub row_of : ℕ → Columns → Columns → Columns
row_of nk newer next = cond (eqb nk 6) (straddled newer next) next

-- what stands before the key's last four words, as far as it is looked at
abbrev pub earlier_of : ℕ → Columns → Columns
earlier_of nk first = cond (eqb nk 6) (straddled first first) first

-- the first row that is not the key's alone
abbrev pub first_row : ℕ → ℕ
first_row nk = cond (eqb nk 8) 2 1

-- the first byte of Rcon behind four words, of which the first stands at place j: another one where this was used
abbrev pub constant_after : ℕ → ℕ → ℕ → ℕ
constant_after nk j x = cond (eqb j 0) (x_times x) (cond (ltb nk (j + 4)) (x_times x) x)

-- fifteen rows: the Nk + 7 round keys, and zeros behind them
abbrev pub fifteen : ℕ → List ℕ → List (List ℕ)
fifteen nk key = round_keys nk key ++ replicate (8 - nk) (replicate 16 0)
