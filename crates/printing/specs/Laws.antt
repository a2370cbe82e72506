-- Laws of what is written: one text behind another, a number's digits, the bytes that are shown. Assumes nothing.
use Rattle.std.specs.Prelude.{◌≡◌, refl, Bool, true, false, List, [], ◌∷◌, ◌++◌, ℕ, zero, suc, ◌+◌, ◌-◌, ◌/◌, ◌%◌, ◌^◌, ◌<◌, ◌≤◌, ltb, length, get_or, take, drop}
use Rattle.std.proofs.Common.{sym, ap, ap₂, ◌∙◌, subst, append-nil, append_assoc, pow-suc, add-one, arith, lt-ltb, le-ltb, ltb-true, ltb-false, length-append, length-take-le, take_at, take-suc}
use Rattle.std.proofs.Math.Path.{subst⁻¹}
use Rattle.std.proofs.Math.Nat.{one-le-pow, pow-le-pow_right}
use Rattle.octets.specs.Lists.{over, cons, over_none}
use Rattle.octets.specs.Writes.{over-next}
use Rattle.hexadecimal.specs.Hexadecimal.{digits_of}
use Rattle.io.specs.Digits.{last_digits, hex_digit_ascii, IsDigitCount}
use Rattle.printing.specs.Printing.{ascii, Written, decimals, is_plain, shown_byte, shown}

-- s is written over d from place `at` on: what stands before its end
pub take-over-end : (d s : List ℕ) (at : ℕ) → at ≤ length d → take (at + length s) (over d at s) ≡ take at d ++ s
unfolding over
take-over-end d s at h =
    let e = length-append (take at d) s ∙ ap (λ (n : ℕ). n + length s) (length-take-le at d h) in
    take_at (take at d ++ s) (drop (at + length s) d) (at + length s) e

-- a text v that is t and then a, with b after it
pub then : (t a b : List ℕ) {v w : List ℕ} → v ≡ t ++ a → w ≡ v ++ b → w ≡ t ++ (a ++ b)
then t a b p q = q ∙ ap (λ (l : List ℕ). l ++ b) p ∙ append_assoc t a b

-- the same text by another name
pub then_as : (t : List ℕ) {s s' w : List ℕ} → s ≡ s' → w ≡ t ++ s → w ≡ t ++ s'
then_as t e q = q ∙ ap (λ (l : List ℕ). t ++ l) e

-- how long a text is with s at its end
pub length-then : (t s : List ℕ) {w : List ℕ} → w ≡ t ++ s → length w ≡ length t + length s
length-then t s e = ap length e ∙ length-append t s

-- t is written behind s
pub written_next : (out : List ℕ) (at : ℕ) (s t : List ℕ) {a b : ℕ} {e f : List ℕ} → at ≤ length out → Written out at s a e → Written e a t b f → Written out at (s ++ t) b f
written_next out at s t h p q = (omega (arith, p.0, q.0, length-append s t), over-next out s t at (sym p.0) h p.1 q.1)

pub written_none : (out : List ℕ) (at : ℕ) → Written out at [] at out
written_none out at = (omega arith, sym (over_none out at))

-- the same text by another name
pub written_as : (out : List ℕ) (at : ℕ) {s t : List ℕ} {r : ℕ} {e : List ℕ} → s ≡ t → Written out at s r e → Written out at t r e
written_as out at q w = (w.0 ∙ ap (λ (l : List ℕ). at + length l) q, w.1 ∙ ap (over out at) q)

glyph-small : (d : ℕ) → d < 10 → hex_digit_ascii d ≡ 0x30 + d
glyph-small d h = rw (lt-ltb d 10 h)

-- a number below 2^64 has at most twenty digits
few : (n r : ℕ) (t : Bool) → ltb 20 r ≡ t → n < 18446744073709551616 → IsDigitCount 10 1 n r → r ≤ 20
few n r false e h f = ltb-false 20 r e
few n r true e h f =
    let l : 20 < r = ltb-true 20 r e in
    let p : 10 ^ 20 ≤ 10 ^ (r - 1) = pow-le-pow_right (omega arith) {i = 20} {j = r - 1} (omega arith) in
    absurd (omega (arith, f.2 (omega arith)))

pub few-digits : (n r : ℕ) → n < 18446744073709551616 → IsDigitCount 10 1 n r → r ≤ 20
few-digits n r = few n r (ltb 20 r) refl

less_one : (j : ℕ) → suc j - 1 ≡ j
less_one j = omega arith

-- the fewest digits that hold a number are those without zeros in front
pub decimal-digits : (k j n : ℕ) → j ≤ k → IsDigitCount 10 1 n j → decimals k n ≡ last_digits 10 j n
unfolding decimals
decimal-digits k zero n h f = absurd (omega (arith, f.0))
decimal-digits zero (suc j) n h f = absurd (omega arith)
decimal-digits (suc k) (suc zero) n h f =
    let l : n < 10 = f.1 in
    let m : n % 10 ≡ n = omega arith in
    rw (lt-ltb n 10 l) (cons (sym (glyph-small (n % 10) (omega arith) ∙ ap (λ (x : ℕ). 0x30 + x) m)) refl)
decimal-digits (suc k) (suc (suc j)) n h f =
    let x : 1 ≤ 10 ^ j = one-le-pow j 10 (omega arith) in
    let least : 10 ^ suc j ≤ n = subst (λ (i : ℕ). 10 ^ i ≤ n) (less_one (suc j)) (f.2 (omega arith)) in
    let e = pow-suc 10 j in
    let e' = pow-suc 10 (suc j) in
    let fewer : IsDigitCount 10 1 (n / 10) (suc j) = (omega arith, omega (arith, f.1), λ g. subst⁻¹ (λ (i : ℕ). 10 ^ i ≤ n / 10) (less_one j) (omega arith)) in
    rw (le-ltb n 10 (omega arith))
    (ap₂ (λ (a b : List ℕ). a ++ b) (decimal-digits k (suc j) (n / 10) (omega arith) fewer) (cons (sym (glyph-small (n % 10) (omega arith))) refl))

-- a byte that is shown
pub shown-plain : (b : ℕ) → is_plain b ≡ true → shown_byte b ≡ b ∷ []
unfolding shown_byte
shown-plain b e = rw e

pub shown-coded : (b : ℕ) → is_plain b ≡ false → shown_byte b ≡ ascii "\\x" ++ digits_of (b ∷ [])
unfolding shown_byte
shown-coded b e = rw e

-- bytes that are shown: one more
pub shown-append : (s t : List ℕ) → shown (s ++ t) ≡ shown s ++ shown t
unfolding shown
shown-append [] t = refl
shown-append (b ∷ s) t = ap (λ (l : List ℕ). shown_byte b ++ l) (shown-append s t) ∙ sym (append_assoc (shown_byte b) (shown s) (shown t))

pub shown-one : (b : ℕ) → shown (b ∷ []) ≡ shown_byte b
unfolding shown
shown-one b = append-nil (shown_byte b)

pub shown-more : (s : List ℕ) (i : ℕ) → i < length s → shown (take (i + 1) s) ≡ shown (take i s) ++ shown_byte (get_or s i 0)
shown-more s i h =
    ap shown (rw (add-one, take-suc s i 0 h))
    ∙ shown-append (take i s) (get_or s i 0 ∷ [])
    ∙ ap (λ (l : List ℕ). shown (take i s) ++ l) (shown-one (get_or s i 0))
