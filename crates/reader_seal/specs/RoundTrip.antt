-- Who has the diversified key deciphers the data of Seal's command to the padded STR2, and unpads it to STR2. Assumes nothing.
use Rattle.std.specs.Prelude.{◌≡◌, true, get_or, take}
use Rattle.std.proofs.Math.Path.{ap}
use Rattle.std.proofs.Common.{◌∙◌, mod-lt, arith}
use mathlib.Core.List.{List, [], ◌∷◌, ◌++◌}
use Prim.Native.Nat.{ℕ, zero, suc, ◌+◌, ◌*◌, ◌/◌, ◌%◌, ◌^◌, ◌<◌}
use Rattle.std.proofs.Math.ListN.{length, replicate}
use Rattle.std.proofs.Math.Seq.{take_at}
use Rattle.octets.specs.Bytes.{Bytes, Block}
use Rattle.octets.specs.Lists.{part}
use Rattle.octets.specs.ByteLists.{cons-bytes, append-bytes, zeros-bytes, take-bytes}
use Rattle.key_expansion.specs.KeyLength.{is_key_length}
use Rattle.aes.specs.Aes.{inv_aes_under}
use Rattle.sha_words.specs.Words.{word_bytes}
use Rattle.sha_block.specs.Hash.{sha256, digest_bytes, state_after}
use Rattle.sha_padding.specs.Parsing.{blocks}
use Rattle.padding.specs.Method2.{blocks_for, zero_bytes, padded, unpadded}
use Rattle.padding.specs.Laws.{length-padded, unpadded-padded, padded-bytes}
use Rattle.std.specs.Prelude.{Some}
use Rattle.cbc.specs.Cbc.{decrypted, zeros}
use Rattle.cbc.specs.Aes.{decrypted-encrypted-aes}
use Rattle.plaid_types.specs.declared.OpModeId.{OpModeId}
use Rattle.diversification.specs.Diversification.{diversified_by}
use Rattle.diversification.specs.Laws.{diversified-bytes}
use Rattle.reader_seal.specs.Seal.{keys_hash_of, str2, sealed_blocks, lc_of, sealed_data, final_command, seal_command}
use Rattle.reader_seal.specs.Laws.{length-card_keys_hash, length-str2, length-sealed_data}

word-bytes : (x : ℕ) → Bytes (word_bytes x)
word-bytes x zero = mod-lt (x / 2 ^ 24) (omega arith)
word-bytes x (suc zero) = mod-lt (x / 2 ^ 16) (omega arith)
word-bytes x (suc (suc zero)) = mod-lt (x / 2 ^ 8) (omega arith)
word-bytes x (suc (suc (suc zero))) = mod-lt x (omega arith)
word-bytes x (suc (suc (suc (suc i)))) = omega arith

-- the first n words of a hash value as bytes: with eight, the digest
words : List ℕ → ℕ → List ℕ
words h zero = []
words h (suc n) = words h n ++ word_bytes (get_or h n 0)

words-bytes : (h : List ℕ) (n : ℕ) → Bytes (words h n)
unfolding words
words-bytes h zero i = omega arith
words-bytes h (suc n) i = append-bytes (words h n) (word_bytes (get_or h n 0)) (words-bytes h n) (word-bytes (get_or h n 0)) i

sha256-bytes : (m : List ℕ) → Bytes (sha256 m)
unfolding words sha256 digest_bytes
sha256-bytes m = words-bytes (state_after m (blocks m)) 8

pub card_keys_hash-bytes : (l : ℕ) (rnd1 rnd2 : List ℕ) → Bytes (keys_hash_of l rnd1 rnd2)
unfolding keys_hash_of part
card_keys_hash-bytes l rnd1 rnd2 = take-bytes l (sha256 (rnd1 ++ rnd2)) (sha256-bytes (rnd1 ++ rnd2))

pub str2-bytes : (mode : OpModeId) (rnd2 payload hash : List ℕ) → mode.0 < 65536 → Bytes rnd2 → Bytes payload → Bytes hash → Bytes (str2 mode rnd2 payload hash)
unfolding str2
str2-bytes mode rnd2 payload hash hm hr hp hh =
    cons-bytes (mode.0 / 256) (mode.0 % 256 ∷ (rnd2 ++ (payload ++ hash))) (omega arith)
    (cons-bytes (mode.0 % 256) (rnd2 ++ (payload ++ hash)) (omega arith) (append-bytes rnd2 (payload ++ hash) hr (append-bytes payload hash hp hh)))

-- what is deciphered under the diversified key: Lc bytes of the command, behind its first five
abbrev pub deciphered_data : ℕ → List ℕ → List ℕ → List ℕ → List ℕ → OpModeId → List ℕ → List ℕ
deciphered_data l fa div rnd1 rnd2 mode payload =
    decrypted (inv_aes_under (diversified_by fa div)) zeros (sealed_blocks l (length payload)) (part (seal_command l fa div rnd1 rnd2 mode payload) 5 (lc_of l (length payload)))

module _ (l : ℕ) (fa div rnd1 rnd2 : List ℕ) (mode : OpModeId) (payload : List ℕ) (hl : is_key_length l ≡ true) (hf : Bytes fa) (hd : Block div) (lr : length rnd2 ≡ l) (hr : Bytes rnd2)
    (hm : mode.0 < 65536) (hp : Bytes payload) where
  text : List ℕ
  text = str2 mode rnd2 payload (keys_hash_of l rnd1 rnd2)

  length-text : length text ≡ 2 + 2 * l + length payload
  unfolding text
  length-text = length-str2 l mode rnd2 payload (keys_hash_of l rnd1 rnd2) lr (length-card_keys_hash l rnd1 rnd2 hl)

  text-bytes : Bytes text
  unfolding text
  text-bytes = str2-bytes mode rnd2 payload (keys_hash_of l rnd1 rnd2) hm hr hp (card_keys_hash-bytes l rnd1 rnd2)

  pub deciphered-str2 : deciphered_data l fa div rnd1 rnd2 mode payload ≡ padded (str2 mode rnd2 payload (keys_hash_of l rnd1 rnd2))
  unfolding seal_command final_command sealed_data part text
  deciphered-str2 =
      let key : List ℕ = diversified_by fa div in
      let n : ℕ = sealed_blocks l (length payload) in
      let d : List ℕ = sealed_data l key mode rnd2 payload (keys_hash_of l rnd1 rnd2) in
      ap (decrypted (inv_aes_under key) zeros n) (take_at d (0 ∷ []) (lc_of l (length payload)) (length-sealed_data l key mode rnd2 payload (keys_hash_of l rnd1 rnd2)))
      ∙ decrypted-encrypted-aes (length key / 4) key (diversified-bytes fa div hf hd) zeros (padded text) (zeros-bytes 16) (padded-bytes text text-bytes) n
      (length-padded text ∙ ap (λ (k : ℕ). 16 * blocks_for k) length-text)

  -- unpadded, it is a text of 2 + 2L bytes and the payload's, and that text is STR2
  pub unpadded-str2 : unpadded (deciphered_data l fa div rnd1 rnd2 mode payload) ≡ Some (2 + 2 * l + length payload)
  unfolding text
  unpadded-str2 = ap unpadded deciphered-str2 ∙ unpadded-padded text ∙ ap Some length-text

  pub read-str2 : take (2 + 2 * l + length payload) (deciphered_data l fa div rnd1 rnd2 mode payload) ≡ str2 mode rnd2 payload (keys_hash_of l rnd1 rnd2)
  unfolding text padded
  read-str2 = ap (take (2 + 2 * l + length payload)) deciphered-str2 ∙ take_at text (0x80 ∷ replicate (zero_bytes (length text)) 0) (2 + 2 * l + length payload) length-text
