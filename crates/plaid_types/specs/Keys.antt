-- Document 02, T-04: keys, RND and KeysHash of L bytes.
use Rattle.std.specs.Prelude.{Bool, cond, List, ℕ, ◌+◌, ◌*◌, eqb, length, replicate}
use Rattle.octets.specs.Lists.{part, over}
use Rattle.key_expansion.specs.KeyLength.{is_key_length}
use Rattle.plaid_types.specs.declared.Value.{Value}
use Rattle.plaid_types.specs.declared.Card.{Card}

-- "A card and its reader have one key length L." A load makes it one of AES's three; for a number that none made, 16 stands
unfoldable pub lawful : ℕ → ℕ
lawful l = cond (is_key_length l) l 16

abbrev pub key_length_of : Card → ℕ
key_length_of c = lawful c.key_length

-- 32 bytes, k's first and zeros behind them: as a card or a value holds L bytes
unfoldable pub wide : List ℕ → List ℕ
wide k = over (replicate 32 0) 0 k

-- the L bytes that are held in 32
unfoldable pub held : ℕ → List ℕ → List ℕ
held l k = part k 0 l

-- a key, RND or KeysHash as a caller gives it: its bytes
abbrev pub bytes_of : Value → List ℕ
bytes_of v = held v.length v.bytes

-- and as a caller gets it
abbrev pub value_of : List ℕ → Value
value_of k = record { length = length k; bytes = wide k }

abbrev pub no_value : Value
no_value = record { length = 0; bytes = replicate 32 0 }

-- "22 a key, RND or KeysHash not of L bytes" is the other case. One that says it has more bytes than it can hold is not of L bytes
abbrev pub of_length : ℕ → Value → Bool
of_length l v = eqb v.length l

-- "STR1 is then 50, 66 or 82 bytes": KeySetID, DivData, RND1, RND1
unfoldable pub str1_length : ℕ → ℕ
str1_length l = 2 + 16 + 2 * l
