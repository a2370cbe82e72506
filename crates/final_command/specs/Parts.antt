-- The steps of a final command in parts, as its functions make them, and the buffer of a reply text. Assumes nothing.
use Rattle.std.specs.Prelude.{Bool, ◌&&◌, List, [], ◌∷◌, ◌++◌, ℕ, ◌+◌, ◌-◌, ◌*◌, leb, length, replicate}
use Rattle.octets.specs.Lists.{part, over}
use Rattle.octets.specs.Bytes.{same}
use Rattle.aes.specs.Aes.{aes_under, inv_aes_under}
use Rattle.sha_block.specs.Hash.{sha256}
use Rattle.padding.specs.Method2.{end, rightly}
use Rattle.work.specs.declared.Made.{Made}
use Rattle.work.specs.Steps.{Step, decipherment, encipherment, expansion, hash_block, counted, sum_from}
use Rattle.cbc.specs.Steps.{enciphered, deciphered}
use Rattle.cbc.specs.Cbc.{decrypted, zeros}
use Rattle.steps.specs.Made.{expansion_step, hash_steps}
use Rattle.diversification.specs.Diversification.{diversified_by, diversify_steps}
use Rattle.plaid_types.specs.Keys.{wide}
use Rattle.plaid_types.specs.declared.Card.{Card}
use Rattle.final_command.specs.Final.{fa_key_of, diversified, blocks_in, text_of, hashed_of}
use Rattle.final_command.specs.declared.Derived.{Derived}
use Rattle.final_command.specs.declared.Opened.{Opened}
use Rattle.final_command.specs.declared.Sent.{Sent}

-- expand FAKey; encipher DivData
abbrev pub div_steps : List ℕ → List ℕ → List Step
div_steps fa div = (expansion_step fa ∷ []) ++ diversify_steps fa div

-- what is told of them, after a sum
abbrev pub derived : List ℕ → List ℕ → ℕ → Derived
derived fa div sum =
    record {
      key = wide (diversified_by fa div);
      encipherments = counted encipherment (div_steps fa div);
      expansions = counted expansion (div_steps fa div);
      sum = sum_from sum (div_steps fa div);
    }

-- what is told of deciphering the whole blocks of d
abbrev pub deciphered_under : List ℕ → List ℕ → ℕ → Made (List ℕ)
deciphered_under key d sum =
    record {
      value = over (replicate 240 0) 0 (decrypted (inv_aes_under key) zeros (blocks_in d) d);
      count = counted decipherment (deciphered key (inv_aes_under key) (blocks_in d) d);
      sum = sum_from sum (deciphered key (inv_aes_under key) (blocks_in d) d);
    }

-- and of hashing m
abbrev pub hashing : List ℕ → ℕ → Made (List ℕ)
hashing m sum = record { value = sha256 m; count = counted hash_block (hash_steps m); sum = sum_from sum (hash_steps m) }

-- expand FAKey; encipher DivData; expand the diversified key; decipher n blocks; hash
unfoldable pub text_steps : Card → List ℕ → List Step
text_steps c d =
    div_steps (fa_key_of c) c.div_data ++
    (expansion_step (diversified c) ∷ []) ++
    deciphered (diversified c) (inv_aes_under (diversified c)) (blocks_in d) d ++
    hash_steps (hashed_of c d)

-- what is told of them
abbrev pub opened_text : Card → List ℕ → Opened
opened_text c d =
    record {
      text = text_of c d;
      digest = sha256 (hashed_of c d);
      decipherments = counted decipherment (text_steps c d);
      encipherments = counted encipherment (text_steps c d);
      expansions = counted expansion (text_steps c d);
      hash_blocks = counted hash_block (text_steps c d);
      sum = sum_from 0 (text_steps c d);
    }

-- the conditions on a text s and its end, which is KeysHash, with `held` for the mode's
abbrev pub sealing : List ℕ → List ℕ → Bool → Bool
sealing s hash held =
    rightly s && (leb (2 + 2 * length hash) (end s - 1) && (same (part s (end s - 1 - length hash) (length hash)) hash && held))

-- expand the reply key; encipher n blocks of the buffer
unfoldable pub reply_steps : List ℕ → ℕ → List ℕ → List Step
reply_steps key n buffer = (expansion_step key ∷ []) ++ enciphered key (aes_under key) zeros n buffer

-- what is told of them, after a sum
abbrev pub sent : List ℕ → ℕ → List ℕ → ℕ → Sent
sent key n buffer sum =
    record {
      encipherments = counted encipherment (reply_steps key n buffer);
      expansions = counted expansion (reply_steps key n buffer);
      length = 16 * n;
      sum = sum_from sum (reply_steps key n buffer);
    }

-- 96 bytes that start as zero, and the text over them
unfoldable pub buffer_of : List ℕ → List ℕ
buffer_of text = over (replicate 96 0) 0 text
