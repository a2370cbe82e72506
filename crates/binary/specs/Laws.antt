-- Laws of bits: eight of them as a number, those of one byte more, and that each is 0 or 1. Assumes nothing.
use Rattle.std.specs.Prelude.{◌≡◌, refl, List, [], ◌∷◌, ◌++◌, ℕ, zero, suc, ◌+◌, ◌*◌, ◌<◌, ◌≤◌, length, get_or, take, replicate}
use Rattle.std.proofs.Common.{sym, ap, subst, ◌∙◌, add-zero, add-one, arith, length-append, take-suc, length-take-le}
use Rattle.octets.specs.Lists.{tabled, part, length_part, get_or-part, over}
use Rattle.octets.specs.Writes.{over-next}
use Rattle.binary.specs.Binary.{value, binary, bits_of}
use Rattle.binary.specs.Places.{by-places}

-- eight bits, as a number
pub value-eight : (b : List ℕ) (at : ℕ) → at + 8 ≤ length b →
    value (part b at 8) ≡
    16 * (8 * get_or b at 0 + 4 * get_or b (at + 1) 0 + 2 * get_or b (at + 2) 0 + get_or b (at + 3) 0) + (8 * get_or b (at + 4) 0 + 4 * get_or b (at + 5) 0 + 2 * get_or b (at + 6) 0 + get_or b (at + 7) 0)
unfolding value
value-eight b at h =
    ap value (tabled (λ k. get_or b (at + k) 0) 8 0 (part b at 8) 0 (omega (arith, length_part b at 8 h)) (λ k l. get_or-part b at 8 k 0 (omega (arith, length_part b at 8 h))))
    ∙ omega (arith, ap (λ (k : ℕ). get_or b k 0) (add-zero at))

-- the bits of one byte more, written behind those of the bytes before it
pub length-bits : (r : List ℕ) → length (bits_of r) ≡ 8 * length r
unfolding bits_of binary
length-bits [] = refl
length-bits (x ∷ r) = omega (arith, length-append (binary 8 x) (bits_of r), length-bits r)

bits-snoc : (r : List ℕ) (x : ℕ) → bits_of (r ++ (x ∷ [])) ≡ bits_of r ++ binary 8 x
unfolding bits_of binary
bits-snoc [] x = refl
bits-snoc (y ∷ r) x = ap (λ (s : List ℕ). binary 8 y ++ s) (bits-snoc r x)

pub bits-turn : (d r : List ℕ) (i : ℕ) {e e' : List ℕ} → i < length r → e ≡ over d 0 (bits_of (take i r)) →
    e' ≡ over e (8 * i) (binary 8 (get_or r i 0)) → e' ≡ over d 0 (bits_of (take (i + 1) r))
bits-turn d r i h q w =
    let s : List ℕ = bits_of (take i r) in
    over-next d s (binary 8 (get_or r i 0)) 0 (omega (arith, length-bits (take i r), length-take-le i r (omega arith))) (omega arith) q w
    ∙ ap (over d 0) (sym (ap bits_of (ap (λ (n : ℕ). take n r) (add-one i) ∙ take-suc r i 0 h) ∙ bits-snoc (take i r) (get_or r i 0)))

-- the bits of four bytes, in their place
pub bits-end : (r : List ℕ) → length r ≡ 4 → over (replicate 32 0) 0 (bits_of (take 4 r)) ≡ bits_of r
unfolding over bits_of binary
bits-end r e = subst (λ (s : List ℕ). over (replicate 32 0) 0 (bits_of (take 4 s)) ≡ bits_of s) (by-places 4 r e) refl

-- each is 0 or 1
binary-small : (n v : ℕ) (s : List ℕ) → ((i : ℕ) → get_or s i 0 ≤ 1) → (i : ℕ) → get_or (binary n v ++ s) i 0 ≤ 1
unfolding binary
binary-small zero v s h i = h i
binary-small (suc n) v s h zero = omega arith
binary-small (suc n) v s h (suc i) = binary-small n v s h i

pub bits_small : (r : List ℕ) (i : ℕ) → get_or (bits_of r) i 0 ≤ 1
unfolding bits_of
bits_small [] i = omega arith
bits_small (b ∷ r) i = binary-small 8 b (bits_of r) (bits_small r) i
