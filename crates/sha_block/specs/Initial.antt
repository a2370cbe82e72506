-- FIPS 180-4, section 5.3.3: "For SHA-256, the initial hash value, H(0), shall consist of the following eight 32-bit words, in hex"
use Rattle.std.specs.Prelude.{List, [], ◌∷◌, ℕ}

unfoldable pub initial_hash : List ℕ
initial_hash = 0x6a09e667 ∷ 0xbb67ae85 ∷ 0x3c6ef372 ∷ 0xa54ff53a ∷ 0x510e527f ∷ 0x9b05688c ∷ 0x1f83d9ab ∷ 0x5be0cd19 ∷ []
