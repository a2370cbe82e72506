-- Document 02, T-05, of Wiegand numbers. A Wiegand number is its 26 bits as a list, each 0 or 1, from the first one on.
use Rattle.std.specs.Prelude.{Bool, cond, ◌&&◌, ◌||◌, not, List, [], ◌∷◌, ◌++◌, map, ℕ, ◌+◌, ◌%◌, eqb, length, get_or, take, drop, replicate}
use Rattle.octets.specs.Lists.{part}
use Rattle.binary.specs.Binary.{bytes_of, bits_of}
use Rattle.conversion.specs.Conversion.{misfit, each}

-- "8 bits facility, 16 bits number": behind the first parity bit
abbrev pub facility : List ℕ → List ℕ
facility w = part w 1 8

abbrev pub number : List ℕ → List ℕ
number w = part w 9 16

-- the 24 "data bits"
abbrev pub data_bits : List ℕ → List ℕ
data_bits w = facility w ++ number w

-- how many ones stand in a list
unfoldable pub ones : List ℕ → ℕ
ones [] = 0
ones (b ∷ s) = cond (eqb b 1) 1 0 + ones s

-- "an even parity bit over the first 12 data bits": the first bit, with which their count of ones is even
unfoldable pub even_right : List ℕ → Bool
even_right w = eqb (ones (get_or w 0 0 ∷ part (data_bits w) 0 12) % 2) 0

-- "an odd parity bit over the last 12": the last bit, with which their count of ones is odd
unfoldable pub odd_right : List ℕ → Bool
odd_right w = eqb (ones (part (data_bits w) 12 12 ++ (get_or w 25 0 ∷ [])) % 2) 1

abbrev pub parity_right : List ℕ → Bool
parity_right w = even_right w && odd_right w

-- "as text, 26 characters 0 or 1": the character of a bit, in ASCII, and the bit of a character
abbrev pub character : ℕ → ℕ
character b = 0x30 + b

abbrev pub is_bit : ℕ → Bool
is_bit c = eqb c (character 0) || eqb c (character 1)

abbrev pub bit_of : ℕ → ℕ
bit_of c = cond (eqb c (character 1)) 1 0

abbrev pub text_bits : List ℕ → List ℕ
text_bits = map bit_of

-- "The record is 4 bytes, the 26 bits in its low end and zeros above": six zeros
abbrev pub with_zeros : List ℕ → List ℕ
with_zeros w = replicate 6 0 ++ w

-- the record of a text
unfoldable pub record_of : List ℕ → List ℕ
record_of t = bytes_of 4 (with_zeros (text_bits t))

-- the 26 bits of a record, those above them, and the text of a record
abbrev pub record_bits : List ℕ → List ℕ
record_bits r = drop 6 (bits_of r)

abbrev pub bits_above : List ℕ → List ℕ
bits_above r = take 6 (bits_of r)

unfoldable pub text_of : List ℕ → List ℕ
text_of r = map character (record_bits r)

-- "23 wrong length of input, or output too short"; "25 a bad character, directly after 23"; "24 wrong parity, text .."; 0 where none of them applies. The
-- text is to be a record, in an output of `room` bytes
unfoldable pub text_number : List ℕ → ℕ → ℕ
text_number t room =
    cond (misfit (length t) 26 room 4) 23
    (cond (not (each is_bit t)) 25
    (cond (not (parity_right (text_bits t))) 24
    0))

-- the same of a record that is to be a text: "24 wrong parity, .. record, or a bit set above the 26"
unfoldable pub record_number : List ℕ → ℕ → ℕ
record_number r room =
    cond (misfit (length r) 4 room 26) 23
    (cond (not (eqb (ones (bits_above r)) 0) || not (parity_right (record_bits r))) 24
    0)
