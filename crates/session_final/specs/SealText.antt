-- What a card in an open session deciphers from Seal's command, where both have the same FAKey, DivData and RND1: STR2 byte by byte, padded; so
-- it reads Seal's mode and RND2, and has Seal's KeysHash. Assumes nothing.
use Rattle.std.specs.Prelude.{◌≡◌, true, ℕ, ◌+◌, ◌*◌, ◌<◌, length, replicate}
use Rattle.std.proofs.Common.{sym, ◌∙◌, arith}
use Rattle.std.proofs.Math.Path.{ap, ap₂}
use mathlib.Core.List.{List, ◌++◌}
use Rattle.std.proofs.Math.ListN.{get_or}
use Rattle.octets.specs.Bytes.{Bytes, Block}
use Rattle.octets.specs.Lists.{part, over}
use Rattle.key_expansion.specs.KeyLength.{is_key_length}
use Rattle.aes.specs.Aes.{inv_aes_under}
use Rattle.sha_block.specs.Hash.{sha256}
use Rattle.padding.specs.Method2.{blocks_for, padded}
use Rattle.padding.specs.Laws.{length-padded}
use Rattle.cbc.specs.Cbc.{decrypted, zeros}
use Rattle.frame.specs.Frame.{data_of}
use Rattle.plaid_types.specs.Keys.{key_length_of}
use Rattle.plaid_types.specs.KeyLaws.{lawful-one}
use Rattle.plaid_types.specs.declared.OpModeId.{OpModeId}
use Rattle.plaid_types.specs.declared.Card.{Card}
use Rattle.final_command.specs.Final.{fa_key_of, rnd1_of, diversified, blocks_in, text_of, hashed_of, card_keys_hash, op_mode, deciphered_text}
use Rattle.diversification.specs.Diversification.{diversified_by}
use Rattle.reader_seal.specs.Seal.{keys_hash_of, str2, sealed_blocks, lc_of, seal_command}
use Rattle.reader_seal.specs.Laws.{length-card_keys_hash, length-str2, length-seal_command}
use Rattle.reader_seal.specs.RoundTrip.{deciphered-str2}
use Rattle.session_final.specs.SealFrame.{seal-data-blocks}
use Rattle.session_final.specs.Buffer.{over-part, over-mode, over-rnd2}

-- a card in an open session, and what Seal takes: L, the session's FAKey and RND1, the card's DivData, RND2, a mode and a payload. (That Seal declines
-- a payload that is too long is no matter here.)
pub record SharedSession (l : ℕ) (c : Card) (fa r1 r2 : List ℕ) (mode : OpModeId) (payload : List ℕ) : Type 0 where
  -- T-04: "A card and its reader have one key length L."
  pub same_length : key_length_of c ≡ l
  pub in-session : c.session.opened ≡ true
  pub same_key : fa_key_of c ≡ fa
  pub same-rnd1 : rnd1_of c ≡ r1
  pub key-bytes : Bytes fa
  pub div-block : Block c.div_data
  pub rnd2-long : length r2 ≡ l
  pub rnd2-bytes : Bytes r2
  pub payload-bytes : Bytes payload
  pub mode-most : mode.0 < 65536

-- the data of Seal's command
abbrev pub sealed : ℕ → Card → List ℕ → List ℕ → List ℕ → OpModeId → List ℕ → List ℕ
sealed l c fa r1 r2 mode payload = data_of (seal_command l fa c.div_data r1 r2 mode payload)

-- the STR2 that Seal made
abbrev pub sealed_text : ℕ → List ℕ → List ℕ → OpModeId → List ℕ → List ℕ
sealed_text l r1 r2 mode payload = str2 mode r2 payload (keys_hash_of l r1 r2)

module _ (l : ℕ) (c : Card) (fa r1 r2 : List ℕ) (mode : OpModeId) (payload : List ℕ) (k : SharedSession l c fa r1 r2 mode payload) where
  pub one : is_key_length l ≡ true
  one = sym (ap is_key_length k.same_length) ∙ lawful-one c.key_length

  key-same : diversified c ≡ diversified_by fa c.div_data
  unfolding diversified
  key-same = ap (λ (x : List ℕ). diversified_by x c.div_data) k.same_key

  pub length-sealed_text : length (sealed_text l r1 r2 mode payload) ≡ 2 + 2 * l + length payload
  length-sealed_text = length-str2 l mode r2 payload (keys_hash_of l r1 r2) k.rnd2-long (length-card_keys_hash l r1 r2 one)

  pub length-sealed_padded : length (padded (sealed_text l r1 r2 mode payload)) ≡ lc_of l (length payload)
  length-sealed_padded = length-padded (sealed_text l r1 r2 mode payload) ∙ ap (λ (n : ℕ). 16 * blocks_for n) length-sealed_text

  data-part : sealed l c fa r1 r2 mode payload ≡ part (seal_command l fa c.div_data r1 r2 mode payload) 5 (lc_of l (length payload))
  unfolding data_of
  data-part =
      ap (part (seal_command l fa c.div_data r1 r2 mode payload) 5) (omega (arith, length-seal_command l fa c.div_data r1 r2 mode payload))

  decrypted-same : (key s t : List ℕ) (n m : ℕ) → key ≡ diversified_by fa c.div_data → n ≡ m → s ≡ t →
      decrypted (inv_aes_under key) zeros n s ≡ decrypted (inv_aes_under (diversified_by fa c.div_data)) zeros m t
  decrypted-same key s t n m p q r =
      ap (λ (x : List ℕ). decrypted (inv_aes_under x) zeros n s) p
      ∙ ap₂ (λ (x : ℕ) (y : List ℕ). decrypted (inv_aes_under (diversified_by fa c.div_data)) zeros x y) q r

  -- the 240 bytes are the padded STR2 and zeros
  pub seal-text : text_of c (sealed l c fa r1 r2 mode payload) ≡ over (replicate 240 0) 0 (padded (sealed_text l r1 r2 mode payload))
  unfolding text_of
  seal-text =
      ap (over (replicate 240 0) 0)
      (decrypted-same (diversified c) (sealed l c fa r1 r2 mode payload) (part (seal_command l fa c.div_data r1 r2 mode payload) 5 (lc_of l (length payload)))
      (blocks_in (sealed l c fa r1 r2 mode payload)) (sealed_blocks l (length payload)) key-same (seal-data-blocks l fa c.div_data r1 r2 mode payload) data-part
      ∙ deciphered-str2 l fa c.div_data r1 r2 mode payload one k.key-bytes k.div-block k.rnd2-long k.rnd2-bytes k.mode-most k.payload-bytes)

  -- the deciphered text is STR2 byte by byte, padded
  pub seal-deciphered : deciphered_text c (sealed l c fa r1 r2 mode payload) ≡ padded (sealed_text l r1 r2 mode payload)
  unfolding deciphered_text
  seal-deciphered =
      ap (λ (x : List ℕ). part x 0 (16 * blocks_in (sealed l c fa r1 r2 mode payload))) seal-text
      ∙ over-part (replicate 240 0) (padded (sealed_text l r1 r2 mode payload)) (16 * blocks_in (sealed l c fa r1 r2 mode payload))
      (length-sealed_padded ∙ omega (arith, seal-data-blocks l fa c.div_data r1 r2 mode payload))

  -- the card reads the mode that Seal took
  pub seal-mode : op_mode (text_of c (sealed l c fa r1 r2 mode payload)) ≡ mode
  unfolding op_mode
  seal-mode =
      ap (λ (n : ℕ). record { 0 = n }) (ap (λ (x : List ℕ). get_or x 0 0 * 256 + get_or x 1 0) seal-text ∙ over-mode (replicate 240 0) mode r2 payload (keys_hash_of l r1 r2))

  -- and the RND2
  pub seal-rnd2 : part (text_of c (sealed l c fa r1 r2 mode payload)) 2 l ≡ r2
  seal-rnd2 =
      ap (λ (x : List ℕ). part x 2 l) seal-text ∙ over-rnd2 (replicate 240 0) mode r2 payload (keys_hash_of l r1 r2) l k.rnd2-long

  -- so both have one KeysHash
  pub seal-card_keys_hash : card_keys_hash c (sealed l c fa r1 r2 mode payload) ≡ keys_hash_of l r1 r2
  unfolding card_keys_hash keys_hash_of hashed_of
  seal-card_keys_hash =
      ap (λ (n : ℕ). part (sha256 (rnd1_of c ++ part (text_of c (sealed l c fa r1 r2 mode payload)) 2 n)) 0 n) k.same_length
      ∙ ap₂ (λ (x y : List ℕ). part (sha256 (x ++ y)) 0 l) k.same-rnd1 seal-rnd2
