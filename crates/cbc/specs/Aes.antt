-- CBC with AES, for a key of any length: each way undoes the other. Assumes nothing.
use Rattle.std.specs.Prelude.{◌≡◌, List, ℕ, ◌*◌, length}
use Rattle.octets.specs.Bytes.{Bytes}
use Rattle.aes.specs.Aes.{aes, inv_aes}
use Rattle.aes.specs.RoundTrip.{inv_aes-aes, aes-inv_aes, aes-block, inv_aes-block}
use Rattle.cbc.specs.Cbc.{encrypted, decrypted, encrypted_whole, decrypted_whole}
use Rattle.cbc.specs.Laws.{BlockCipher, decrypted-encrypted, encrypted-decrypted, decrypted_whole-encrypted_whole, encrypted_whole-decrypted_whole}

module _ (nk : ℕ) (key : List ℕ) (hk : Bytes key) where
  pub aes-cipher : BlockCipher (aes nk key) (inv_aes nk key)
  aes-cipher =
      record {
        ciph-block = aes-block nk key hk;
        inv-block = inv_aes-block nk key hk;
        inv-ciph = inv_aes-aes nk key hk;
        ciph-inv = aes-inv_aes nk key hk;
      }

  module _ (iv s : List ℕ) (hi : Bytes iv) (hs : Bytes s) where
    pub decrypted-encrypted-aes : (n : ℕ) → length s ≡ 16 * n → decrypted (inv_aes nk key) iv n (encrypted (aes nk key) iv n s) ≡ s
    decrypted-encrypted-aes = decrypted-encrypted (aes nk key) (inv_aes nk key) aes-cipher iv s hi hs

    pub encrypted-decrypted-aes : (n : ℕ) → length s ≡ 16 * n → encrypted (aes nk key) iv n (decrypted (inv_aes nk key) iv n s) ≡ s
    encrypted-decrypted-aes = encrypted-decrypted (aes nk key) (inv_aes nk key) aes-cipher iv s hi hs

    pub decrypted_whole-encrypted_whole-aes : decrypted_whole (inv_aes nk key) iv (encrypted_whole (aes nk key) iv s) ≡ s
    decrypted_whole-encrypted_whole-aes = decrypted_whole-encrypted_whole (aes nk key) (inv_aes nk key) aes-cipher iv s hi hs

    pub encrypted_whole-decrypted_whole-aes : encrypted_whole (aes nk key) iv (decrypted_whole (inv_aes nk key) iv s) ≡ s
    encrypted_whole-decrypted_whole-aes = encrypted_whole-decrypted_whole (aes nk key) (inv_aes nk key) aes-cipher iv s hi hs
