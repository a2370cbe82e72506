-- FIPS 197, section 5.2: KEYEXPANSION(), for a key of Nk words.
use Rattle.std.specs.Prelude.{List, [], ◌∷◌, ◌++◌, Bool, true, false, ℕ, zero, suc, ◌+◌, ◌-◌, ◌*◌, ◌/◌, ◌%◌, eqb, ltb, get_or}
use Rattle.std.specs.Int.Bits.{bit_xor}
use Rattle.octets.specs.Lists.{table}
use Rattle.octets.specs.Tests.{both}
use Rattle.field.specs.Field.{x_times}
use Rattle.sbox.specs.SubBytes.{sbox}

-- "a word is a sequence of four bytes"
abbrev pub word : (ℕ → ℕ) → List ℕ
word f = f 0 ∷ f 1 ∷ f 2 ∷ f 3 ∷ []

-- "ROTWORD([a₀, a₁, a₂, a₃]) = [a₁, a₂, a₃, a₀]"
abbrev pub rot_word : List ℕ → List ℕ
rot_word a = word (λ i. get_or a ((i + 1) % 4) 0)

-- "SUBWORD([a₀, .., a₃]) = [SBOX(a₀), SBOX(a₁), SBOX(a₂), SBOX(a₃)]"
abbrev pub sub_word : List ℕ → List ℕ
sub_word a = word (λ i. sbox (get_or a i 0))

abbrev pub xor_word : List ℕ → List ℕ → List ℕ
xor_word a b = word (λ i. bit_xor (get_or a i 0) (get_or b i 0))

-- x^n in the field
unfoldable pub power : ℕ → ℕ
power zero = 1
power (suc n) = x_times (power n)

-- table 5: Rcon[j] is the word [x^(j − 1), {00}, {00}, {00}]
abbrev pub rcon : ℕ → List ℕ
rcon j = power (j - 1) ∷ 0 ∷ 0 ∷ 0 ∷ []

abbrev pub pick : Bool → List ℕ → List ℕ → List ℕ
pick true a b = a
pick false a b = b

-- "if i mod Nk = 0: temp ← SUBWORD(ROTWORD(temp)) ⊕ Rcon[i/Nk]; else if Nk > 6 and i mod Nk = 4: temp ← SUBWORD(temp)"
unfoldable pub temp : ℕ → ℕ → List ℕ → List ℕ
temp nk i t =
    pick (eqb (i % nk) 0) (xor_word (sub_word (rot_word t)) (rcon (i / nk)))
    (pick (both (ltb 6 nk) (eqb (i % nk) 4)) (sub_word t) t)

-- "temp ← w[i − 1]; ..; w[i] ← w[i − Nk] ⊕ temp"
abbrev pub next_word : ℕ → List (List ℕ) → ℕ → List ℕ
next_word nk w i = xor_word (get_or w (i - nk) []) (temp nk i (get_or w (i - 1) []))

-- the first Nk + n words: "w[i] ← key[4i .. 4i + 3]" for i below Nk, and one word more for each turn
unfoldable pub words : ℕ → List ℕ → ℕ → List (List ℕ)
words nk key zero = table (λ i. word (λ j. get_or key (4 * i + j) 0)) nk 0
words nk key (suc n) = words nk key n ++ (next_word nk (words nk key n) (nk + n) ∷ [])

-- all 4(Nr + 1) words, where Nr = Nk + 6
abbrev pub key_expansion : ℕ → List ℕ → List (List ℕ)
key_expansion nk key = words nk key (4 * (nk + 7) - nk)

-- the round key of a round: "w[4 · round .. 4 · round + 3]"
unfoldable pub round_key : List (List ℕ) → ℕ → List ℕ
round_key w r = get_or w (4 * r) [] ++ get_or w (4 * r + 1) [] ++ get_or w (4 * r + 2) [] ++ get_or w (4 * r + 3) []

-- the Nr + 1 round keys, as rows of sixteen bytes
abbrev pub round_keys : ℕ → List ℕ → List (List ℕ)
round_keys nk key = table (round_key (key_expansion nk key)) (nk + 7) 0
