-- Octets and digits written one behind the other, as one. Assumes nothing.
use mathlib.Core.Path.{◌≡◌, refl, sym, ap, ap₂, ◌∙◌}
use mathlib.Core.List.{List, [], ◌∷◌, ◌++◌}
use Prim.Native.Nat.{ℕ, ◌+◌, ◌*◌, ◌/◌, ◌%◌, ◌<◌, ◌≤◌}
use native.Mathlib.Numerals.{add-one}
use native.Mathlib.Omega.{arith}
use lib.ListN.{length, get_or, set, take, drop}
use lib.Seq.{length-take-le, take-suc, take_all, paste, paste-suc}
use Rattle.octets.specs.Lists.{over, cons}
use Rattle.octets.specs.Writes.{over-next}
use Rattle.hexadecimal.specs.Hexadecimal.{digit_value, digit, octets_of, digits_of}
use Rattle.hexadecimal.specs.Laws.{length-octets, length_digits, get_or-octets, digits-snoc}

-- i octets of a group are written, and one more
pub octets-turn : (d s : List ℕ) (at i : ℕ) {e : List ℕ} {h l : ℕ} → 2 * i + 1 < length s → at + i < length d → e ≡ paste d at (octets_of s) i →
    h ≡ digit_value (get_or s (2 * i) 0) → l ≡ digit_value (get_or s (2 * i + 1) 0) → set e (at + i) (16 * h + l) ≡ paste d at (octets_of s) (i + 1)
octets-turn d s at i k r q hh hl =
    let v = ap₂ (λ (x y : ℕ). 16 * x + y) hh hl ∙ sym (get_or-octets s i k) in
    let k' : i < length (octets_of s) = omega (arith, length-octets s) in
    ap₂ (λ (x : List ℕ) (n : ℕ). set x (at + i) n) q v
    ∙ paste-suc d at (octets_of s) i 0 r k'
    ∙ ap (paste d at (octets_of s)) (sym (add-one i))

-- all are
pub octets-all : (d s : List ℕ) (at i : ℕ) {e : List ℕ} → i ≡ length s / 2 → e ≡ paste d at (octets_of s) i → e ≡ over d at (octets_of s)
unfolding over
octets-all d s at i h q =
    let k : i ≡ length (octets_of s) = h ∙ sym (length-octets s) in
    q ∙ ap₂ (λ (x : List ℕ) (n : ℕ). take at d ++ x ++ drop (at + n) d) (take_all i (octets_of s) (omega arith)) k

-- the digits of i octets are written, and two more
pub digits-turn : (d r : List ℕ) (at i : ℕ) {e e' : List ℕ} {x y : ℕ} → i < length r → at ≤ length d → e ≡ over d at (digits_of (take i r)) →
    x ≡ digit (get_or r i 0 / 16) → y ≡ digit (get_or r i 0 % 16) → e' ≡ over e (at + 2 * i) (x ∷ y ∷ []) → e' ≡ over d at (digits_of (take (i + 1) r))
digits-turn d r at i {e} {e'} {x} {y} h k q hx hy w =
    let s : List ℕ = digits_of (take i r) in
    let l : length s ≡ 2 * i = length_digits (take i r) ∙ ap (λ (n : ℕ). 2 * n) (length-take-le i r (omega arith)) in
    over-next d s (x ∷ y ∷ []) at (ap (λ (n : ℕ). at + n) l) k q w
    ∙ ap (λ (t : List ℕ). over d at (s ++ t)) (cons hx (cons hy refl))
    ∙ ap (over d at) (sym (ap digits_of (ap (λ (n : ℕ). take n r) (add-one i) ∙ take-suc r i 0 h) ∙ digits-snoc (take i r) (get_or r i 0)))
