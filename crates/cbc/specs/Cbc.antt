-- SP 800-38A, section 6.2: the cipher block chaining mode. CIPH is any function of blocks: the length of its key is no matter of CBC.
use Rattle.std.specs.Prelude.{List, [], ◌++◌, ℕ, zero, suc, ◌*◌, ◌/◌, length, drop, replicate}
use Rattle.octets.specs.Bytes.{block_xor}
use Rattle.octets.specs.Lists.{part}

-- ⊕, the exclusive or of two blocks. Shut: block_xor writes its sixteen bytes out wherever it stands
infixl 65 ◌⊕◌
unfoldable pub ◌⊕◌ : List ℕ → List ℕ → List ℕ
x ⊕ y = block_xor x y

-- document 01: "CBC starts from sixteen zero bytes."
abbrev pub zeros : List ℕ
zeros = replicate 16 0

-- CBC encryption: "C1 = CIPHK(P1 ⊕ IV); Cj = CIPHK(Pj ⊕ Cj−1) for j = 2 … n", of the n blocks that s begins with
unfoldable pub encrypted : (List ℕ → List ℕ) → List ℕ → ℕ → List ℕ → List ℕ
encrypted ciph iv zero s = []
encrypted ciph iv (suc n) s =
    let c : List ℕ = ciph (part s 0 16 ⊕ iv) in
    c ++ encrypted ciph c n (drop 16 s)

-- CBC decryption: "P1 = CIPH⁻¹K(C1) ⊕ IV; Pj = CIPH⁻¹K(Cj) ⊕ Cj−1 for j = 2 … n"
unfoldable pub decrypted : (List ℕ → List ℕ) → List ℕ → ℕ → List ℕ → List ℕ
decrypted inv iv zero s = []
decrypted inv iv (suc n) s =
    let c : List ℕ = part s 0 16 in
    (inv c ⊕ iv) ++ decrypted inv c n (drop 16 s)

-- a buffer of any length: its whole blocks encrypted, and the fewer than sixteen bytes behind them as they were
unfoldable pub encrypted_whole : (List ℕ → List ℕ) → List ℕ → List ℕ → List ℕ
encrypted_whole ciph iv s = encrypted ciph iv (length s / 16) s ++ drop (16 * (length s / 16)) s

-- the same, decrypted
unfoldable pub decrypted_whole : (List ℕ → List ℕ) → List ℕ → List ℕ → List ℕ
decrypted_whole inv iv s = decrypted inv iv (length s / 16) s ++ drop (16 * (length s / 16)) s
