-- Document 01, "The reader": Seal, with T-04 of document 02: L, here l, is the length of keys, RND1, RND2 and KeysHash.
use Rattle.std.specs.Prelude.{cond, not, ◌&&◌, List, [], ◌∷◌, ◌++◌, ℕ, ◌+◌, ◌-◌, ◌*◌, ◌/◌, ◌%◌, eqb, ltb, length}
use Rattle.octets.specs.Lists.{part, over}
use Rattle.key_expansion.specs.KeyLength.{is_key_length}
use Rattle.aes.specs.Aes.{aes_under}
use Rattle.sha_block.specs.Hash.{sha256}
use Rattle.padding.specs.Method2.{blocks_for, padded}
use Rattle.cbc.specs.Cbc.{encrypted, zeros}
use Rattle.plaid_types.specs.Keys.{bytes_of, value_of, no_value, of_length}
use Rattle.plaid_types.specs.declared.Value.{Value}
use Rattle.plaid_types.specs.declared.OpModeId.{OpModeId}
use Rattle.diversification.specs.Diversification.{diversified_by}
use Rattle.reader_seal.specs.declared.Sealed.{Sealed}

-- KeysHash, the hash of RND1 and RND2: "SHA-256 output is cut to L"
unfoldable pub keys_hash_of : ℕ → List ℕ → List ℕ → List ℕ
keys_hash_of l rnd1 rnd2 = part (sha256 (rnd1 ++ rnd2)) 0 l

-- "STR2 = OpModeID, RND2, payload .., KeysHash"
unfoldable pub str2 : OpModeId → List ℕ → List ℕ → List ℕ → List ℕ
str2 mode rnd2 payload hash = mode.0 / 256 ∷ mode.0 % 256 ∷ (rnd2 ++ (payload ++ hash))

-- a payload of p bytes makes a STR2 of 2 + 2L + p bytes, which takes so many blocks
abbrev pub sealed_blocks : ℕ → ℕ → ℕ
sealed_blocks l p = blocks_for (2 + 2 * l + p)

abbrev pub lc_of : ℕ → ℕ → ℕ
lc_of l p = 16 * sealed_blocks l p

-- "padded, CBC under the diversified key", from sixteen zero bytes on
unfoldable pub sealed_data : ℕ → List ℕ → OpModeId → List ℕ → List ℕ → List ℕ → List ℕ
sealed_data l key mode rnd2 payload hash = encrypted (aes_under key) zeros (sealed_blocks l (length payload)) (padded (str2 mode rnd2 payload hash))

-- "framed as a final command": 00 86 00 00, Lc, the data, 00
unfoldable pub final_command : ℕ → List ℕ → List ℕ
final_command lc d = 0 ∷ 0x86 ∷ 0 ∷ 0 ∷ lc ∷ (d ++ (0 ∷ []))

-- "It takes the winning set's FAKey, with DivData and RND1 as Open gave them."
unfoldable pub seal_command : ℕ → List ℕ → List ℕ → List ℕ → List ℕ → OpModeId → List ℕ → List ℕ
seal_command l fa div rnd1 rnd2 mode payload =
    final_command (lc_of l (length payload)) (sealed_data l (diversified_by fa div) mode rnd2 payload (keys_hash_of l rnd1 rnd2))

-- "Payload limits are 205, 189 and 173": what the longest text that 240 bytes hold with its padding has beside OpModeID, RND2 and KeysHash
abbrev pub payload_most : ℕ → ℕ
payload_most l = 240 - 1 - (2 + 2 * l)

-- "Seal: 16 payload over" that; "17 output below Lc + 6", for a payload of p bytes and an output of so many; 0: not declined. "Where several apply, the
-- first in the order written is given". T-04: "21 L is none of the three, first at load, open, seal and accept; 22 a key, RND or KeysHash not of L
-- bytes, directly after 1 or, in the reader, 21"
unfoldable pub seal_number : ℕ → Value → Value → Value → ℕ → ℕ → ℕ
seal_number l fa rnd1 rnd2 p room =
    cond (not (is_key_length l)) 21
    (cond (not (of_length l fa && (of_length l rnd1 && of_length l rnd2))) 22
    (cond (ltb (payload_most l) p) 16
    (cond (ltb room (lc_of l p + 6)) 17
    0)))

-- "Outside commands and Accept it hands back its number alone": the rest is zero
abbrev pub seal_declined : ℕ → Sealed
seal_declined n = record { number = n; length = 0; keys_hash = no_value }

-- what is sealed with a FAKey, RND1 and RND2 as the caller gives them
abbrev pub sealed_command : ℕ → Value → List ℕ → Value → Value → OpModeId → List ℕ → List ℕ
sealed_command l fa div rnd1 rnd2 mode payload = seal_command l (bytes_of fa) div (bytes_of rnd1) (bytes_of rnd2) mode payload

-- "Seal hands back its length and KeysHash."
abbrev pub seal_done : ℕ → Value → List ℕ → Value → Value → OpModeId → List ℕ → Sealed
seal_done l fa div rnd1 rnd2 mode payload =
    record { number = 0; length = length (sealed_command l fa div rnd1 rnd2 mode payload); keys_hash = value_of (keys_hash_of l (bytes_of rnd1) (bytes_of rnd2)) }

unfoldable pub sealed_of : ℕ → Value → List ℕ → Value → Value → OpModeId → List ℕ → ℕ → Sealed
sealed_of l fa div rnd1 rnd2 mode payload room =
    cond (eqb (seal_number l fa rnd1 rnd2 (length payload) room) 0)
    (seal_done l fa div rnd1 rnd2 mode payload)
    (seal_declined (seal_number l fa rnd1 rnd2 (length payload) room))

-- "a decline writes nothing ..; Seal, when it succeeds, writes the bytes of its command and no others"
unfoldable pub seal_output : ℕ → Value → List ℕ → Value → Value → OpModeId → List ℕ → List ℕ → List ℕ
seal_output l fa div rnd1 rnd2 mode payload out =
    cond (eqb (seal_number l fa rnd1 rnd2 (length payload) (length out)) 0) (over out 0 (sealed_command l fa div rnd1 rnd2 mode payload)) out
