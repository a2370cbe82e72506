-- Document 01, "The reader": Accept, with T-01 and T-04 of document 02: a KeysHash of l bytes.
use Rattle.std.specs.Prelude.{Bool, cond, not, ◌&&◌, ◌||◌, List, ℕ, ◌+◌, ◌-◌, ◌/◌, eqb, ltb, leb, length, replicate}
use Rattle.octets.specs.Bytes.{same}
use Rattle.octets.specs.Lists.{part, over}
use Rattle.key_expansion.specs.KeyLength.{is_key_length}
use Rattle.aes.specs.Aes.{inv_aes_under}
use Rattle.padding.specs.Method2.{end, rightly}
use Rattle.cbc.specs.Cbc.{decrypted, zeros}
use Rattle.plaid_types.specs.Keys.{bytes_of, of_length}
use Rattle.plaid_types.specs.declared.Value.{Value}
use Rattle.reader_accept.specs.declared.Accepted.{Accepted}

-- "Decipher under KeysHash into a work buffer": the blocks of the response, by CBC from sixteen zero bytes on
unfoldable pub deciphered_text : List ℕ → List ℕ → List ℕ
deciphered_text hash response = decrypted (inv_aes_under hash) zeros (length response / 16) response

-- "unpad": how many bytes of s stand before its padding
abbrev pub text_length : List ℕ → ℕ
text_length s = end s - 1

-- "the last 16 bytes must be DivData and 1 to 64 bytes must stand before them", of the text in the first t bytes of s
unfoldable pub right_body : List ℕ → ℕ → List ℕ → Bool
right_body s t div = leb (1 + 16) t && (leb t (64 + 16) && same (part s (t - 16) 16) div)

unfoldable pub authenticated : List ℕ → List ℕ → Bool
authenticated s div = rightly s && right_body s (text_length s) div

-- the bytes before them, the body: how many they are
abbrev pub body_length : List ℕ → ℕ
body_length s = text_length s - 16

-- T-01: "The reader gets the mode's record length", len here. "A shorter body, or a length of 0", is the other case
unfoldable pub has_record : ℕ → ℕ → Bool
has_record len body = leb 1 len && leb len body

-- what 20 is not given to. T-01: "A shorter body, or a length of 0, gives refusal 20", the number of what is not authenticated
unfoldable pub acceptable : List ℕ → List ℕ → ℕ → Bool
acceptable s div len = authenticated s div && has_record len (body_length s)

-- "length not 32, 48, 64, 80 or 96"
unfoldable pub known_length : ℕ → Bool
known_length n = eqb n 32 || (eqb n 48 || (eqb n 64 || (eqb n 80 || eqb n 96)))

-- "Accept: 18 length not ..; 19 work buffer shorter than the response; 20 not authenticated (padding, body or DivData, one number)",
-- for a response of n bytes and a work buffer of so many; 0: not declined. "Where several apply, the first in the order written is given". T-04: "21 L
-- is none of the three, first at load, open, seal and accept; 22 a key, RND or KeysHash not of L bytes, directly after 1 or, in the reader, 21"
unfoldable pub accept_number : ℕ → Value → ℕ → ℕ → Bool → ℕ
accept_number l hash n room ok =
    cond (not (is_key_length l)) 21
    (cond (not (of_length l hash)) 22
    (cond (not (known_length n)) 18
    (cond (ltb room n) 19
    (cond ok 0 20))))

-- that of a response
abbrev pub number_of : ℕ → Value → List ℕ → ℕ → List ℕ → ℕ → ℕ
number_of l hash div len response room = accept_number l hash (length response) room (acceptable (deciphered_text (bytes_of hash) response) div len)

-- what is handed back: the number, and how many bytes of the work buffer are the record, by T-01 "that many". "On any of the three the returned part
-- is empty." T-04: "Accept then returns an empty part", of 21 and 22
unfoldable pub accepted_of : ℕ → Value → List ℕ → ℕ → List ℕ → ℕ → Accepted
accepted_of l hash div len response room =
    record { number = number_of l hash div len response room; length = cond (eqb (number_of l hash div len response room) 0) len 0 }

-- the work buffer afterwards. Declined by another number than 20: "a decline writes nothing". By 20: "the deciphered bytes zeroed". Otherwise it has
-- the deciphered bytes. "Bytes beyond the response's length are untouched."
abbrev pub work_of : ℕ → List ℕ → ℕ → List ℕ → List ℕ
work_of number text n work =
    cond (eqb number 0) (over work 0 text) (cond (eqb number 20) (over work 0 (replicate n 0)) work)

unfoldable pub work_after : ℕ → Value → List ℕ → ℕ → List ℕ → List ℕ → List ℕ
work_after l hash div len response work =
    work_of (number_of l hash div len response (length work)) (deciphered_text (bytes_of hash) response) (length response) work

-- "these are returned as a part of the work buffer": its first bytes, by T-01 as many as the record's length
abbrev pub record_part : List ℕ → Accepted → List ℕ
record_part work a = part work 0 a.length
