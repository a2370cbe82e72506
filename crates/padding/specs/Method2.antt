-- ISO/IEC 9797-1, padding method 2, for blocks of 16 bytes.
use Rattle.std.specs.Prelude.{Bool, Option, Some, None, cond, ◌&&◌, List, ◌∷◌, ◌++◌, ℕ, zero, suc, ◌+◌, ◌-◌, ◌*◌, ◌/◌, ◌%◌, eqb, ltb, leb, length, get_or, take, replicate}
use Rattle.octets.specs.Lists.{over}

-- "a text of t bytes takes floor(t/16) + 1 blocks"
abbrev pub blocks_for : ℕ → ℕ
blocks_for t = t / 16 + 1

-- "the fewest zero bytes that fill a block": what is left of the blocks behind the text and the byte 0x80
abbrev pub zero_bytes : ℕ → ℕ
zero_bytes t = 16 * blocks_for t - (t + 1)

-- "Padding always adds 0x80, then the fewest zero bytes that fill a block"
unfoldable pub padded : List ℕ → List ℕ
padded s = s ++ (0x80 ∷ replicate (zero_bytes (length s)) 0)

-- "the last nonzero byte": one past its place among the first n bytes of s, and 0 where all of them are zero
unfoldable pub text_end : List ℕ → ℕ → ℕ
text_end s zero = 0
text_end s (suc n) = cond (eqb (get_or s n 0) 0) (text_end s n) (suc n)

-- the same of the whole of s
abbrev pub end : List ℕ → ℕ
end s = text_end s (length s)

-- "Unpadding wants the last nonzero byte to be 0x80 and to stand in the last block": s is whole blocks, has such a byte,
-- it is 0x80, and it is one of the last sixteen bytes
unfoldable pub rightly : List ℕ → Bool
rightly s = eqb (length s % 16) 0 && (ltb 0 (end s) && (eqb (get_or s (end s - 1) 0) 0x80 && ltb (length s) (end s + 16)))

-- the text is what stands before that byte
unfoldable pub unpadded : List ℕ → Option ℕ
unpadded s = cond (rightly s) (Some (end s - 1)) None

-- padding in a buffer of n bytes whose first t are the text: where the padded text ends, if it fits
unfoldable pub pad_answer : ℕ → ℕ → Option ℕ
pad_answer n t = cond (leb (16 * blocks_for t) n) (Some (16 * blocks_for t)) None

-- and the buffer afterwards: the padded text and what stood behind it, or all as it was
unfoldable pub pad_buffer : List ℕ → ℕ → List ℕ
pad_buffer buf t = cond (leb (16 * blocks_for t) (length buf)) (over buf 0 (padded (take t buf))) buf
