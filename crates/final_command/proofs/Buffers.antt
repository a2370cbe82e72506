-- A buffer that a text is written over the front of: its front, what writing behind the text or over it gives, and padding in it.
-- Assumes nothing.
use mathlib.Core.Path.{◌≡◌, sym, ap, ap₂, ◌∙◌}
use mathlib.Core.List.{List, ◌++◌}
use Prim.Native.Nat.{ℕ, ◌+◌, ◌-◌, ◌*◌, ◌≤◌}
use native.Mathlib.Omega.{arith}
use borrow.Author.Tests.{le-leb}
use lib.ListN.{length, take, drop, length-append}
use lib.Seq.{drop-append-add, drop-drop, length-take-le, length_front}
use Rattle.octets.specs.Lists.{over, length_over}
use Rattle.octets.specs.Writes.{over-front, take-over}
use Rattle.padding.specs.Method2.{blocks_for, padded, pad_buffer}
use Rattle.padding.specs.Laws.{length-padded}

pub drop-over : (d s : List ℕ) (n : ℕ) → drop (length s + n) (over d 0 s) ≡ drop (length s + n) d
drop-over d s n = ap (drop (length s + n)) (over-front d s) ∙ drop-append-add s (drop (length s) d) n ∙ drop-drop n (length s) d

drop-behind : (d s : List ℕ) (n : ℕ) → length s ≤ n → drop n (over d 0 s) ≡ drop n d
drop-behind d s n h =
    let e : n ≡ length s + (n - length s) = omega arith in
    ap (λ (m : ℕ). drop m (over d 0 s)) e ∙ drop-over d s (n - length s) ∙ ap (λ (m : ℕ). drop m d) (sym e)

-- a text as long in its place
pub over-again : (d s t : List ℕ) (n : ℕ) → length s ≡ n → length t ≡ n → t ++ drop n (over d 0 s) ≡ over d 0 t
over-again d s t n e f =
    ap (λ (x : List ℕ). t ++ x) (drop-behind d s n (omega arith))
    ∙ ap (λ (m : ℕ). t ++ drop m d) (sym f)
    ∙ sym (over-front d t)

-- a text as long or longer in its place
pub over-over : (d s t : List ℕ) → length s ≤ length t → over (over d 0 s) 0 t ≡ over d 0 t
over-over d s t h = over-front (over d 0 s) t ∙ ap (λ (x : List ℕ). t ++ x) (drop-behind d s (length t) h) ∙ sym (over-front d t)

-- a text behind it
pub over-behind : (d s t : List ℕ) (n : ℕ) → length s ≡ n → over (over d 0 s) n t ≡ over d 0 (s ++ t)
unfolding over
over-behind d s t n e =
    let m : n + length t ≡ 0 + length (s ++ t) = omega (arith, length-append s t) in
    ap₂ (λ (x y : List ℕ). x ++ t ++ y) (take-over d s n e) (drop-behind d s (n + length t) (omega arith))
    ∙ ap (λ (i : ℕ). s ++ t ++ drop i d) m

-- two texts, one behind the other, as the first k bytes of a buffer
pub front-both : (d s t : List ℕ) (n k : ℕ) {e e' t' : List ℕ} → length s ≡ n → n + length t ≡ k → e ≡ over d 0 s → t' ≡ t → e' ≡ over e n t' → take k e' ≡ s ++ t
front-both d s t n k l m q r q' =
    ap (take k) (q' ∙ ap₂ (λ (x y : List ℕ). over x n y) q r ∙ over-behind d s t n l)
    ∙ take-over d (s ++ t) k (length-append s t ∙ omega arith)

-- a text and its end, padded
pub over-padded : (d s t : List ℕ) (n m : ℕ) → length s ≡ n → length t ≡ 16 → m ≡ n + 16 → 16 * blocks_for m ≤ length d →
    pad_buffer (over (over d 0 s) n t) m ≡ over d 0 (padded (s ++ t))
unfolding pad_buffer
over-padded d s t n m e f g h =
    let x : List ℕ = s ++ t in
    let l : length x ≡ m = length-append s t ∙ omega arith in
    let w : length (over d 0 x) ≡ length d = length_over d 0 x (omega arith) in
    rw (over-behind d s t n e, w, le-leb (16 * blocks_for m) (length d) h, take-over d x m l)
    (over-over d x (padded x) (omega (arith, length-padded x)))

-- the first n bytes of a buffer d, replaced by as many
module _ (d e : List ℕ) (n : ℕ) (same : length e ≡ length (take n d)) (h : n ≤ length d) where
  pub front-within : n ≤ length (e ++ drop n d)
  front-within = omega (arith, length_front d e n same)

  pub front-count : n ≡ length (take n (e ++ drop n d))
  front-count = sym (length-take-le n (e ++ drop n d) front-within)

  pub front_fits : (o : List ℕ) → n ≤ length o → 0 + length (take n (e ++ drop n d)) ≤ length o
  front_fits o k = omega (arith, front-count)
