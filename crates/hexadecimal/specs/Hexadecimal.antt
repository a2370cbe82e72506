-- Document 02, T-05: hexadecimal digits by RFC 4122, section 3, "either case read, small letters written".
use Rattle.std.specs.Prelude.{Bool, cond, ◌&&◌, ◌||◌, List, [], ◌∷◌, ℕ, ◌+◌, ◌*◌, ◌-◌, ◌/◌, ◌%◌, ltb, leb}

abbrev pub within : ℕ → ℕ → ℕ → Bool
within first last c = leb first c && leb c last

-- hexDigit = "0" / .. / "9" / "a" / .. / "f" / "A" / .. / "F"
unfoldable pub is_digit : ℕ → Bool
is_digit c = within 0x30 0x39 c || (within 0x41 0x46 c || within 0x61 0x66 c)

-- the digit's value: "a" and "A" are ten
unfoldable pub digit_value : ℕ → ℕ
digit_value c = cond (leb c 0x39) (c - 0x30) (cond (leb c 0x46) (c - 0x41 + 10) (c - 0x61 + 10))

-- "small letters written": the digit of a value below 16
unfoldable pub digit : ℕ → ℕ
digit v = cond (ltb v 10) (0x30 + v) (0x61 + (v - 10))

-- hexOctet = hexDigit hexDigit: the octets of digits, and the digits of octets. A digit without another is none's
unfoldable pub octets_of : List ℕ → List ℕ
octets_of [] = []
octets_of (a ∷ []) = []
octets_of (a ∷ b ∷ s) = (16 * digit_value a + digit_value b) ∷ octets_of s

unfoldable pub digits_of : List ℕ → List ℕ
digits_of [] = []
digits_of (b ∷ r) = digit (b / 16) ∷ digit (b % 16) ∷ digits_of r
