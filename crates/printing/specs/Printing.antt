-- What a program writes: words, numbers in decimal, and bytes of its input as they are shown.
use Rattle.std.specs.Prelude.{◌≡◌, Bool, cond, ◌&&◌, not, List, [], ◌∷◌, ◌++◌, ℕ, zero, suc, ◌+◌, ◌/◌, ◌%◌, eqb, ltb, length}
use Prim.Native.Char.{code}
use Prim.Native.String.{String, [] as []ˢ, ◌∷◌ as ◌∷ˢ◌}
use Rattle.octets.specs.Lists.{over}
use Rattle.hexadecimal.specs.Hexadecimal.{digits_of, within}

-- the characters of a text, in ASCII
abbrev pub ascii : String → List ℕ
ascii []ˢ = []
ascii (c ∷ˢ s) = code c ∷ ascii s

-- s was written over `out` from place `at` on, and r is the place behind it
abbrev pub Written : List ℕ → ℕ → List ℕ → ℕ → List ℕ → Type 0
Written out at s r out' = (r ≡ at + length s) × (out' ≡ over out at s)

-- a number of at most k digits in decimal, without zeros in front
unfoldable pub decimals : ℕ → ℕ → List ℕ
decimals zero n = []
decimals (suc k) n = cond (ltb n 10) ((0x30 + n) ∷ []) (decimals k (n / 10) ++ ((0x30 + n % 10) ∷ []))

-- one below 2^64
abbrev pub decimal : ℕ → List ℕ
decimal n = decimals 20 n

-- the printable characters of ASCII, but for the space and the backslash, are shown as they are, and any other byte as \xNN
unfoldable pub is_plain : ℕ → Bool
is_plain b = within 0x21 0x7E b && not (eqb b 0x5C)

unfoldable pub shown_byte : ℕ → List ℕ
shown_byte b = cond (is_plain b) (b ∷ []) (ascii "\\x" ++ digits_of (b ∷ []))

unfoldable pub shown : List ℕ → List ℕ
shown [] = []
shown (b ∷ s) = shown_byte b ++ shown s
