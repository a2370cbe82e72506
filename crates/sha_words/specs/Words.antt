-- FIPS 180-4, sections 2.2.2, 3.1 and 3.2: words of 32 bits. A word is a number below 2^32; ∧, ∨ and ⊕ are the library's bitAnd, bitOr
-- and bitXor.
use Rattle.std.specs.Prelude.{ℕ, ◌+◌, ◌-◌, ◌*◌, ◌/◌, ◌%◌, ◌^◌, List, [], ◌∷◌, bit_or}

-- 2.2.2: "¬ Bitwise complement operation"
abbrev pub complement : ℕ → ℕ
complement x = 2 ^ 32 - 1 - x

-- 2.2.2: "+ Addition modulo 2^w"
abbrev pub plus : ℕ → ℕ → ℕ
plus x y = (x + y) % 2 ^ 32

-- 2.2.2: "x << n is obtained by discarding the left-most n bits of the word x and then padding the result with n zeroes on the right"
abbrev pub shift_left : ℕ → ℕ → ℕ
shift_left n x = x * 2 ^ n % 2 ^ 32

-- 2.2.2: "x >> n is obtained by discarding the right-most n bits of the word x and then padding the result with n zeroes on the left"
abbrev pub shift_right : ℕ → ℕ → ℕ
shift_right n x = x / 2 ^ n

-- 3.1: "the big-endian convention is used when expressing both 32- and 64-bit words, so that within each word, the most significant bit is
-- stored in the left-most bit position": the word of four bytes, and the four bytes of a word
abbrev pub word : ℕ → ℕ → ℕ → ℕ → ℕ
word a b c d = a * 2 ^ 24 + b * 2 ^ 16 + c * 2 ^ 8 + d

abbrev pub word_bytes : ℕ → List ℕ
word_bytes x = x / 2 ^ 24 % 256 ∷ x / 2 ^ 16 % 256 ∷ x / 2 ^ 8 % 256 ∷ x % 256 ∷ []

-- 3.2, item 3: "the right shift operation SHR^n(x) = x >> n"
abbrev pub shr : ℕ → ℕ → ℕ
shr n x = shift_right n x

-- 3.2, item 4: "the rotate right (circular right shift) operation ROTR^n(x) = (x >> n) ∨ (x << w - n)"
abbrev pub rotr : ℕ → ℕ → ℕ
rotr n x = bit_or (shift_right n x) (shift_left (32 - n) x)
