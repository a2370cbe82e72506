-- Document 02, T-05, of UUIDs: "UUID text follows RFC 4122, 36 characters, either case read, small letters written" (RFC 4122, section 3).
use Rattle.std.specs.Prelude.{Bool, cond, ◌&&◌, not, List, ◌∷◌, ◌++◌, map, ℕ, ◌+◌, eqb, length, get_or}
use Rattle.octets.specs.Lists.{part}
use Rattle.conversion.specs.Conversion.{misfit, each}
use Rattle.hexadecimal.specs.Hexadecimal.{within, is_digit, octets_of, digits_of}

-- "-", in ASCII
abbrev pub hyphen : ℕ
hyphen = 0x2D

-- UUID = time-low "-" time-mid "-" time-high-and-version "-" clock-seq-and-reserved clock-seq-low "-" node, of 4, 2, 2, 2 and 6 octets: the text of a record
abbrev pub behind_hyphen : List ℕ → List ℕ
behind_hyphen r = hyphen ∷ digits_of r

unfoldable pub text_of : List ℕ → List ℕ
text_of r = digits_of (part r 0 4) ++ behind_hyphen (part r 4 2) ++ behind_hyphen (part r 6 2) ++ behind_hyphen (part r 8 2) ++ behind_hyphen (part r 10 6)

-- the record of a text: the octets of its five groups of digits
unfoldable pub record_of : List ℕ → List ℕ
record_of t = octets_of (part t 0 8) ++ octets_of (part t 9 4) ++ octets_of (part t 14 4) ++ octets_of (part t 19 4) ++ octets_of (part t 24 12)

-- a hyphen stands at place p, and n digits behind it
unfoldable pub group_at : List ℕ → ℕ → ℕ → Bool
group_at t p n = eqb (get_or t p 0) hyphen && each is_digit (part t (p + 1) n)

-- every character is one that RFC 4122 has at its place
unfoldable pub formed : List ℕ → Bool
formed t = each is_digit (part t 0 8) && (group_at t 8 4 && (group_at t 13 4 && (group_at t 18 4 && group_at t 23 12)))

-- a text with its capitals made small
abbrev pub small : ℕ → ℕ
small c = cond (within 0x41 0x5A c) (c + 0x20) c

abbrev pub small_text : List ℕ → List ℕ
small_text = map small

-- "23 wrong length of input, or output too short"; "25 a bad character, directly after 23"; 0 where neither applies. The text is to be a record, in an
-- output of `room` bytes
unfoldable pub text_number : List ℕ → ℕ → ℕ
text_number t room =
    cond (misfit (length t) 36 room 16) 23
    (cond (not (formed t)) 25
    0)

-- the same of a record that is to be a text: every record of 16 bytes is
unfoldable pub record_number : List ℕ → ℕ → ℕ
record_number r room = cond (misfit (length r) 16 room 36) 23 0
