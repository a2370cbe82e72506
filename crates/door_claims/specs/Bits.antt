-- Bits and bytes undo one another. Assumes nothing.
use Rattle.std.specs.Prelude.{◌≡◌, refl, Bool, List, [], ◌∷◌, ◌++◌, ℕ, ◌+◌, ◌<◌, ◌≤◌, eqb, length, get_or}
use Rattle.std.proofs.Common.{ap₂, subst, arith, eqb→eq}
use Rattle.octets.specs.Bytes.{Bytes}
use Rattle.octets.specs.Lists.{part, cons}
use Rattle.octets.specs.Tests.{below_at}
use Rattle.binary.specs.Binary.{value, binary, bytes_of, bits_of}
use Rattle.binary.specs.Places.{by-places}

-- a byte's eight bits are the byte's, computed
byte-back : ℕ → Bool
byte-back v = eqb (value (binary 8 v)) v

value-binary : (v : ℕ) → v < 256 → value (binary 8 v) ≡ v
unfolding byte-back value binary
value-binary v h = eqb→eq (value (binary 8 v)) v (below_at byte-back 256 tt v h)

eight-back : (a b c d e f g h : ℕ) → a ≤ 1 → b ≤ 1 → c ≤ 1 → d ≤ 1 → e ≤ 1 → f ≤ 1 → g ≤ 1 → h ≤ 1 →
    binary 8 (value (a ∷ b ∷ c ∷ d ∷ e ∷ f ∷ g ∷ h ∷ [])) ≡ a ∷ b ∷ c ∷ d ∷ e ∷ f ∷ g ∷ h ∷ []
unfolding value binary
eight-back a b c d e f g h ha hb hc hd he hf hg hh =
    cons (omega arith)
    (cons (omega arith)
    (cons (omega arith)
    (cons (omega arith)
    (cons (omega arith)
    (cons (omega arith)
    (cons (omega arith)
    (cons (omega arith) refl)))))))

-- four bytes of their bits, and the bits of four bytes
pub bytes_bits : (r : List ℕ) → length r ≡ 4 → Bytes r → bytes_of 4 (bits_of r) ≡ r
unfolding bits_of binary part
bytes_bits r e h =
    subst (λ (s : List ℕ). bytes_of 4 (bits_of s) ≡ s) (by-places 4 r e)
    (cons (value-binary (get_or r 0 0) (h 0))
    (cons (value-binary (get_or r 1 0) (h 1))
    (cons (value-binary (get_or r 2 0) (h 2))
    (cons (value-binary (get_or r 3 0) (h 3)) refl))))

pub bits-bytes : (b : List ℕ) → length b ≡ 32 → ((i : ℕ) → get_or b i 0 ≤ 1) → bits_of (bytes_of 4 b) ≡ b
unfolding bits_of part
bits-bytes b e h =
    let x : ℕ → ℕ = λ i. get_or b i 0 in
    let o : (i : ℕ) → binary 8 (value (x i ∷ x (i + 1) ∷ x (i + 2) ∷ x (i + 3) ∷ x (i + 4) ∷ x (i + 5) ∷ x (i + 6) ∷ x (i + 7) ∷ [])) ≡ x i ∷ x (i + 1) ∷ x (i + 2) ∷ x (i + 3) ∷ x (i + 4) ∷ x (i + 5) ∷ x (i + 6) ∷ x (i + 7) ∷ [] =
    λ i. eight-back (x i) (x (i + 1)) (x (i + 2)) (x (i + 3)) (x (i + 4)) (x (i + 5)) (x (i + 6)) (x (i + 7)) (h i) (h (i + 1)) (h (i + 2)) (h (i + 3)) (h (i + 4)) (h (i + 5)) (h (i + 6)) (h (i + 7)) in
    subst (λ (s : List ℕ). bits_of (bytes_of 4 s) ≡ s) (by-places 32 b e)
    (ap₂ (λ (s t : List ℕ). s ++ t) (o 0) (ap₂ (λ (s t : List ℕ). s ++ t) (o 8) (ap₂ (λ (s t : List ℕ). s ++ t) (o 16) (ap₂ (λ (s t : List ℕ). s ++ t) (o 24) refl))))
