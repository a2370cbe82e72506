-- FIPS 197, section 5: AES with a key of Nk words, 4, 6 or 8, in Nr = Nk + 6 rounds.
use Rattle.std.specs.Prelude.{List, ℕ, ◌+◌, ◌-◌, ◌/◌, length}
use Rattle.rounds.specs.Cipher.{cipher}
use Rattle.rounds.specs.InvCipher.{inv_cipher}
use Rattle.key_expansion.specs.KeyExpansion.{round_keys}

-- "AES-128(in, key) = CIPHER(in, 10, KEYEXPANSION(key))", and so for 192 and 256 bits with 12 and 14
abbrev pub aes : ℕ → List ℕ → List ℕ → List ℕ
aes nk key s = cipher (nk + 6) (round_keys nk key) s

abbrev pub inv_aes : ℕ → List ℕ → List ℕ → List ℕ
inv_aes nk key s = inv_cipher (nk + 6) (round_keys nk key) s

-- under a key of 4 Nk bytes: AES-128, AES-192 or AES-256, as the key is long
abbrev pub aes_under : List ℕ → List ℕ → List ℕ
aes_under key s = aes (length key / 4) key s

abbrev pub inv_aes_under : List ℕ → List ℕ → List ℕ
inv_aes_under key s = inv_aes (length key / 4) key s

-- "CIPHER(in, Nr, w)" and "INVCIPHER(in, Nr, w)" for all the Nr + 1 rows of w
abbrev pub cipher_by : List (List ℕ) → List ℕ → List ℕ
cipher_by w s = cipher (length w - 1) w s

abbrev pub inv_cipher_by : List (List ℕ) → List ℕ → List ℕ
inv_cipher_by w s = inv_cipher (length w - 1) w s
