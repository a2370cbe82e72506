-- FIPS 197, appendices A.1 and B. Assumes nothing.
use Rattle.std.specs.Prelude.{◌≡◌, refl, List, [], ◌∷◌, ℕ, get_or}
use Rattle.field.specs.Matrix.{row_times}
use Rattle.sbox.specs.SubBytes.{sbox}
use Rattle.rounds.specs.Cipher.{round, rounds, last_round, cipher}
use Rattle.aes.specs.Aes.{aes}
use Rattle.key_expansion.specs.KeyExpansion.{power, temp, words, round_key, round_keys}

-- the key of both: 2b 7e 15 16 28 ae d2 a6 ab f7 15 88 09 cf 4f 3c
unfoldable pub key : List ℕ
key = 0x2b ∷ 0x7e ∷ 0x15 ∷ 0x16 ∷ 0x28 ∷ 0xae ∷ 0xd2 ∷ 0xa6 ∷ 0xab ∷ 0xf7 ∷ 0x15 ∷ 0x88 ∷ 0x09 ∷ 0xcf ∷ 0x4f ∷ 0x3c ∷ []

-- A.1: w40 to w43 are the last round key
pub expanded : get_or (round_keys 4 key) 10 [] ≡ 0xd0 ∷ 0x14 ∷ 0xf9 ∷ 0xa8 ∷ 0xc9 ∷ 0xee ∷ 0x25 ∷ 0x89 ∷ 0xe1 ∷ 0x3f ∷ 0x0c ∷ 0xc8 ∷ 0xb6 ∷ 0x63 ∷ 0x0c ∷ 0xa6 ∷ []
unfolding key round_key words temp power sbox
expanded = refl

-- B: the input 32 43 f6 a8 88 5a 30 8d 31 31 98 a2 e0 37 07 34
pub enciphered :
    aes 4 key (0x32 ∷ 0x43 ∷ 0xf6 ∷ 0xa8 ∷ 0x88 ∷ 0x5a ∷ 0x30 ∷ 0x8d ∷ 0x31 ∷ 0x31 ∷ 0x98 ∷ 0xa2 ∷ 0xe0 ∷ 0x37 ∷ 0x07 ∷ 0x34 ∷ [])
    ≡ 0x39 ∷ 0x25 ∷ 0x84 ∷ 0x1d ∷ 0x02 ∷ 0xdc ∷ 0x09 ∷ 0xfb ∷ 0xdc ∷ 0x11 ∷ 0x85 ∷ 0x97 ∷ 0x19 ∷ 0x6a ∷ 0x0b ∷ 0x32 ∷ []
unfolding key round_key words temp power sbox cipher last_round rounds round row_times
enciphered = refl
