-- FIPS 180-4, section 5.1.1: padding the message. A message here is whole bytes.
use Rattle.std.specs.Prelude.{List, ◌∷◌, ◌++◌, ℕ, ◌+◌, ◌-◌, ◌*◌, ◌/◌, ◌%◌, ◌^◌, length, replicate}
use Rattle.octets.specs.Lists.{table}

-- "Suppose that the length of the message, M, is l bits. Append the bit "1" to the end of the message, followed by k zero bits, where k is
-- the smallest, non-negative solution to the equation l + 1 + k ≡ 448 mod 512."
abbrev pub zero_bits : ℕ → ℕ
zero_bits l = (960 - (l + 1) % 512) % 512

-- "Then append the 64-bit block that is equal to the number l expressed using a binary representation." Eight bytes, big-endian; of l
-- modulo 2^64, though the standard has no message of 2^64 bits or more.
abbrev pub be64 : ℕ → List ℕ
be64 l = table (λ j. l / 2 ^ (56 - 8 * j) % 256) 8 0

-- The three joined: the bit "1" and the first seven of the k zero bits are the byte 0x80
unfoldable pub pad : List ℕ → List ℕ
pad m = m ++ (0x80 ∷ (replicate ((zero_bits (8 * length m) - 7) / 8) 0 ++ be64 (8 * length m)))
