-- AES and its inverse undo one another, for every key and every block of bytes. Assumes nothing.
use Rattle.std.specs.Prelude.{◌≡◌, refl, List, ℕ, ◌+◌, length}
use Rattle.octets.specs.Bytes.{Bytes, Block}
use Rattle.rounds.specs.Cipher.{cipher, last_round}
use Rattle.rounds.specs.Undo.{inv_cipher-cipher, cipher-inv_cipher, cipher-block, inv_cipher-block}
use Rattle.key_expansion.specs.KeyExpansion.{round_keys}
use Rattle.aes.specs.Aes.{aes, inv_aes}
use Rattle.key_expansion.specs.Words.{round_keys-bytes}

pub length-aes : (nk : ℕ) (key s : List ℕ) → length (aes nk key s) ≡ 16
unfolding cipher last_round
length-aes nk key s = refl

module _ (nk : ℕ) (key : List ℕ) (kb : Bytes key) (s : List ℕ) (b : Block s) where
  pub inv_aes-aes : inv_aes nk key (aes nk key s) ≡ s
  inv_aes-aes = inv_cipher-cipher (round_keys nk key) (round_keys-bytes nk key kb) (nk + 6) s b

  pub aes-inv_aes : aes nk key (inv_aes nk key s) ≡ s
  aes-inv_aes = cipher-inv_cipher (round_keys nk key) (round_keys-bytes nk key kb) (nk + 6) s b

  pub aes-block : Block (aes nk key s)
  aes-block = cipher-block (round_keys nk key) (round_keys-bytes nk key kb) (nk + 6) s b

  pub inv_aes-block : Block (inv_aes nk key s)
  inv_aes-block = inv_cipher-block (round_keys nk key) (round_keys-bytes nk key kb) (nk + 6) s b
