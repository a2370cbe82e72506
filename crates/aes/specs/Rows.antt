-- AES by the rows of a key expansion: the round keys as they are, and as they stand before the zeros of `fifteen`. Assumes nothing.
use Rattle.std.specs.Prelude.{◌≡◌, List, ℕ, ◌+◌, ◌-◌, ◌/◌, length, take, replicate}
use Rattle.std.proofs.Common.{ap, ◌∙◌, arith, take_at}
use Rattle.rounds.specs.Cipher.{cipher}
use Rattle.rounds.specs.InvCipher.{inv_cipher}
use Rattle.key_expansion.specs.KeyExpansion.{round_keys}
use Rattle.key_expansion.specs.Schedule.{fifteen}
use Rattle.key_expansion.specs.Filling.{length-round_keys}
use Rattle.aes.specs.Aes.{aes, inv_aes, aes_under, inv_aes_under, cipher_by, inv_cipher_by}

module _ (nk : ℕ) (key : List ℕ) where
  -- what `&rows[..n]` is, of the rows that `expand` returns
  pub take-fifteen : take (nk + 7) (fifteen nk key) ≡ round_keys nk key
  take-fifteen = take_at (round_keys nk key) (replicate (8 - nk) (replicate 16 0)) (nk + 7) (length-round_keys nk key)

  rounds-of : length (round_keys nk key) - 1 ≡ nk + 6
  rounds-of = omega (arith, length-round_keys nk key)

  -- as functions, for CBC
  pub cipher_by-aes : cipher_by (round_keys nk key) ≡ aes nk key
  cipher_by-aes = ap (λ (n : ℕ). cipher n (round_keys nk key)) rounds-of

  pub inv_cipher_by-inv_aes : inv_cipher_by (round_keys nk key) ≡ inv_aes nk key
  inv_cipher_by-inv_aes = ap (λ (n : ℕ). inv_cipher n (round_keys nk key)) rounds-of

  -- and of one block
  pub rows-aes : (s : List ℕ) → cipher_by (round_keys nk key) s ≡ aes nk key s
  rows-aes s = ap (λ (f : List ℕ → List ℕ). f s) cipher_by-aes

  pub rows-inv_aes : (s : List ℕ) → inv_cipher_by (round_keys nk key) s ≡ inv_aes nk key s
  rows-inv_aes s = ap (λ (f : List ℕ → List ℕ). f s) inv_cipher_by-inv_aes

-- the rows that an expansion returns, for a key of 4 Nk bytes: the round keys in front, more than one, encipher and decipher under it
module _ (key : List ℕ) {w : List (List ℕ)} (e : w ≡ fifteen (length key / 4) key) where
  pub lent : take (length key / 4 + 7) w ≡ round_keys (length key / 4) key
  lent = ap (take (length key / 4 + 7)) e ∙ take-fifteen (length key / 4) key

  pub length-lent : length (take (length key / 4 + 7) w) ≡ length key / 4 + 7
  length-lent = ap length lent ∙ length-round_keys (length key / 4) key

  pub lent-aes : cipher_by (take (length key / 4 + 7) w) ≡ aes_under key
  lent-aes = ap cipher_by lent ∙ cipher_by-aes (length key / 4) key

  pub lent-inv_aes : inv_cipher_by (take (length key / 4 + 7) w) ≡ inv_aes_under key
  lent-inv_aes = ap inv_cipher_by lent ∙ inv_cipher_by-inv_aes (length key / 4) key
