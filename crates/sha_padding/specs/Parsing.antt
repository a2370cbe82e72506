-- FIPS 180-4, section 5.2.1: parsing the message
use Rattle.std.specs.Prelude.{List, ℕ, ◌+◌, ◌*◌, ◌/◌, length, get_or}
use Rattle.octets.specs.Lists.{table}
use Rattle.sha_words.specs.Words.{word}
use Rattle.sha_padding.specs.Padding.{pad}

-- "For SHA-1, SHA-224 and SHA-256, the message and its padding are parsed into N 512-bit blocks, M(1), M(2), .., M(N)."
abbrev pub blocks : List ℕ → ℕ
blocks m = length (pad m) / 64

-- The 64 bytes of the block that has i before it, M(i + 1) in the standard's count; zeros past the last
unfoldable pub block_at : List ℕ → ℕ → List ℕ
block_at m i = table (λ j. get_or (pad m) (64 * i + j) 0) 64 0

-- "Since the 512 bits of the input block may be expressed as sixteen 32-bit words, the first 32 bits of message block i are denoted M0(i),
-- the next 32 bits are M1(i), and so on up to M15(i)."
abbrev pub block_word : List ℕ → ℕ → ℕ
block_word b t = word (get_or b (4 * t) 0) (get_or b (4 * t + 1) 0) (get_or b (4 * t + 2) 0) (get_or b (4 * t + 3) 0)

unfoldable pub block_words : List ℕ → List ℕ
block_words b = table (block_word b) 16 0
