-- Document 01, "Final", with T-01, T-04 and T-07 of document 02.
use Rattle.std.specs.Prelude.{Bool, cond, ◌&&◌, List, [], ◌∷◌, ◌++◌, ℕ, suc, ◌+◌, ◌-◌, ◌*◌, ◌/◌, ◌%◌, eqb, ltb, leb, length, get_or, replicate}
use Rattle.octets.specs.Lists.{part, over}
use Rattle.octets.specs.Bytes.{same}
use Rattle.aes.specs.Aes.{aes_under, inv_aes_under}
use Rattle.sha_block.specs.Hash.{sha256}
use Rattle.padding.specs.Method2.{padded, end, rightly}
use Rattle.work.specs.Steps.{Step}
use Rattle.cbc.specs.Cbc.{encrypted, decrypted, zeros}
use Rattle.cbc.specs.Steps.{enciphered, deciphered}
use Rattle.steps.specs.Made.{mode_matched, mode_comparison, expansion_step, hash_steps}
use Rattle.diversification.specs.Diversification.{diversified_by, diversify_steps}
use Rattle.plaid_types.specs.Keys.{key_length_of, held}
use Rattle.plaid_types.specs.Cards.{no_session, no_mode, Reply}
use Rattle.plaid_types.specs.declared.OpModeId.{OpModeId}
use Rattle.plaid_types.specs.declared.ModeSlot.{ModeSlot}
use Rattle.plaid_types.specs.declared.Card.{Card}

abbrev pub least : ℕ → ℕ → ℕ
least a b = cond (ltb a b) a b

-- "With no session the shill AES key stands for FAKey and zeros for RND1." T-07: "An open session now carries its FAKey instead of finding it by
-- KeySetID". T-04: "A card and its reader have one key length L. RND1, RND2 and KeysHash have L bytes each"
unfoldable pub fa_key_of : Card → List ℕ
fa_key_of c = held (key_length_of c) (cond c.session.opened c.session.fa_key c.shill_key)

unfoldable pub rnd1_of : Card → List ℕ
rnd1_of c = cond c.session.opened (held (key_length_of c) c.session.rnd1) (replicate (key_length_of c) 0)

-- "encipher DivData, giving the diversified key"
unfoldable pub diversified : Card → List ℕ
diversified c = diversified_by (fa_key_of c) c.div_data

-- "n = floor(Lc/16)"
abbrev pub blocks_in : List ℕ → ℕ
blocks_in d = length d / 16

-- "decipher n blocks by CBC into 240 bytes that start as zero"
unfoldable pub text_of : Card → List ℕ → List ℕ
text_of c d = over (replicate 240 0) 0 (decrypted (inv_aes_under (diversified c)) zeros (blocks_in d) d)

-- "hash RND1 and bytes 2 to 17 of these, counted from 0". T-04: RND2, which they are, has L bytes
unfoldable pub hashed_of : Card → List ℕ → List ℕ
hashed_of c d = rnd1_of c ++ part (text_of c d) 2 (key_length_of c)

-- "KeysHash is the first 16 bytes of the hash." T-04: "SHA-256 output is cut to L"
unfoldable pub card_keys_hash : Card → List ℕ → List ℕ
card_keys_hash c d = part (sha256 (hashed_of c d)) 0 (key_length_of c)

-- "compare bytes 0 and 1 with sixteen mode slots (an empty one never matches)"
unfoldable pub op_mode : List ℕ → OpModeId
op_mode text = record { 0 = get_or text 0 0 * 256 + get_or text 1 0 }

abbrev pub mode_steps : OpModeId → List ModeSlot → List Step
mode_steps v [] = []
mode_steps v (m ∷ ms) = mode_comparison v m.held m.id ∷ mode_steps v ms

-- the first mode slot, counted from i, that matches; past the last where none does
abbrev pub first_mode : ℕ → OpModeId → List ModeSlot → ℕ
first_mode i v [] = i
first_mode i v (m ∷ ms) = cond (mode_matched v m.held m.id) i (first_mode (suc i) v ms)

unfoldable pub mode_of : Card → List ℕ → ℕ
mode_of c d = first_mode 0 (op_mode (text_of c d)) c.modes

-- the first 16n bytes
unfoldable pub deciphered_text : Card → List ℕ → List ℕ
deciphered_text c d = part (text_of c d) 0 (16 * blocks_in d)

-- the six conditions on a text s of whole blocks: "a session is open, Lc is a multiple of 16, the first 16n bytes are rightly padded,
-- the unpadded text has at least 34 bytes, its last 16 equal KeysHash, and the mode is held" (its slot is below sixteen). T-04: "the shortest text
-- has 2 + 2L bytes", and KeysHash has L
unfoldable pub accepting : ℕ → Bool → ℕ → List ℕ → List ℕ → ℕ → Bool
accepting l opened lc s hash mode =
    opened && (eqb (lc % 16) 0 && (rightly s && (leb (2 + 2 * l) (end s - 1) && (same (part s (end s - 1 - l) l) hash && ltb mode 16))))

-- "Accepted exactly when .."
unfoldable pub accepts_final : Card → List ℕ → Bool
accepts_final c d = accepting (key_length_of c) c.session.opened (length d) (deciphered_text c d) (card_keys_hash c d) (mode_of c d)

-- "expand the reply key": KeysHash, or the shill key
unfoldable pub reply_key : Card → List ℕ → List ℕ
reply_key c d = cond (accepts_final c d) (card_keys_hash c d) (held (key_length_of c) c.shill_key)

-- the record of a mode: a part of the record area, of at most 64 bytes
unfoldable pub record_of : List ℕ → ModeSlot → List ℕ
record_of area m = part area m.start (least m.len 64)

-- reply size B, which a load makes 2 to 6
unfoldable pub size_of : Card → ℕ
size_of c = least c.reply_size 6

-- T-01: "A shorter record is followed by a payload of zero bytes up to 16(B − 2) bytes in all." A record that has as many is the body alone
unfoldable pub body_of : List ℕ → ℕ → List ℕ
body_of rec b = rec ++ replicate (16 * (b - 2) - length rec) 0

-- "the reply is record, DivData and padding .. Otherwise the first 16B fresh bytes .., unpadded". By T-01 the record is followed by its payload
unfoldable pub reply_text : Bool → List ℕ → ModeSlot → List ℕ → List ℕ → ℕ → List ℕ
reply_text accepted area m div fresh b = cond accepted (padded (body_of (record_of area m) b ++ div)) (part fresh 0 (16 * b))

-- what is enciphered, in a buffer of 96 bytes that starts as zero. On a card that a load returned the text fills B blocks exactly
unfoldable pub reply_buffer : Card → List ℕ → List ℕ → List ℕ
reply_buffer c d fresh = over (replicate 96 0) 0 (reply_text (accepts_final c d) c.area (get_or c.modes (mode_of c d) no_mode) c.div_data fresh (size_of c))

-- "encipher B blocks", "by CBC"
unfoldable pub final_bytes : Card → List ℕ → List ℕ → List ℕ
final_bytes c d fresh = encrypted (aes_under (reply_key c d)) zeros (size_of c) (reply_buffer c d fresh)

-- "Steps, always all: expand FAKey; encipher DivData ..; expand it; decipher n blocks ..; hash ..; compare ..; expand the reply key; encipher B blocks."
-- T-04: "One encipherment more is made for L over 16, directly after the first."
unfoldable pub final_steps : Card → List ℕ → List ℕ → List Step
final_steps c d fresh =
    (expansion_step (fa_key_of c) ∷ []) ++
    diversify_steps (fa_key_of c) c.div_data ++
    (expansion_step (diversified c) ∷ []) ++
    deciphered (diversified c) (inv_aes_under (diversified c)) (blocks_in d) d ++
    hash_steps (hashed_of c d) ++
    mode_steps (op_mode (text_of c d)) c.modes ++
    (expansion_step (reply_key c d) ∷ []) ++
    enciphered (reply_key c d) (aes_under (reply_key c d)) zeros (size_of c) (reply_buffer c d fresh)

-- "The session closes either way. A final answer's key handle is 0."
unfoldable pub final_reply : Card → List ℕ → List ℕ → Reply
final_reply c d fresh = record { handle = 0; bytes = final_bytes c d fresh; steps = final_steps c d fresh; session = no_session }
