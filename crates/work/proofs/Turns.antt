-- Loops that mix a list from the front: what is left of it, mixed into the sum now, is the whole of it, mixed into the first. Assumes nothing.
use mathlib.Core.Path.{◌≡◌, refl, sym, ap, ap₂, ◌∙◌}
use mathlib.Core.List.{List, [], ◌++◌, flatten, append_assoc}
use Prim.Native.Nat.{ℕ, zero, suc, ◌+◌, ◌-◌, ◌*◌, ◌^◌, ◌<◌, ◌≤◌}
use native.Mathlib.Nat.{mul-le-mul_left}
use native.Mathlib.Numerals.{add-one}
use native.Mathlib.Omega.{arith}
use lib.ListN.{length, take, drop, get_or, drop_of_length-le, length-drop, take-append-drop}
use lib.Seq.{take_all, drop-cons, drop-drop}
use Rattle.std.specs.Simd.{first_chunks}
use Rattle.work.specs.Steps.{mixed, mixed_all}
use Rattle.work.specs.Laws.{mixed_all-append}
use Rattle.work.specs.Weights.{weight, weighed}

pub bytes-turn : (l : List ℕ) (i s s' all : ℕ) → i < length l → s' ≡ mixed s (get_or l i 0) → mixed_all s (drop i l) ≡ all → mixed_all s' (drop (i + 1) l) ≡ all
bytes-turn l i s s' all h e q = rw (e, add-one) (rw (drop-cons l i 0) at q)

pub bytes-done : (l : List ℕ) (i s all : ℕ) → length l ≤ i → mixed_all s (drop i l) ≡ all → s ≡ all
bytes-done l i s all h q = rw (drop_of_length-le l h) at q

pub rows-turn : (l : List (List ℕ)) (i s s' all : ℕ) → i < length l → s' ≡ mixed_all s (get_or l i []) → mixed_all s (flatten (drop i l)) ≡ all → mixed_all s' (flatten (drop (i + 1) l)) ≡ all
unfolding flatten
rows-turn l i s s' all h e q = rw (e, add-one) (sym (mixed_all-append s (get_or l i []) _) ∙ rw (drop-cons l i []) at q)

pub rows-done : (l : List (List ℕ)) (i s all : ℕ) → length l ≤ i → mixed_all s (flatten (drop i l)) ≡ all → s ≡ all
unfolding flatten
rows-done l i s all h q = rw (drop_of_length-le l h) at q

-- the blocks of sixteen, and what is left behind them
blocks-whole : (k : ℕ) (l : List ℕ) → flatten (first_chunks 16 k l) ++ drop (k * 16) l ≡ l
unfolding flatten
blocks-whole zero l = refl
blocks-whole (suc k) l =
    let m : suc k * 16 ≡ 16 + k * 16 = omega arith in
    append_assoc (take 16 l) (flatten (first_chunks 16 k (drop 16 l))) (drop (suc k * 16) l)
    ∙ ap (λ (x : List ℕ). take 16 l ++ (flatten (first_chunks 16 k (drop 16 l)) ++ x)) (ap (λ (n : ℕ). drop n l) m ∙ sym (drop-drop (k * 16) 16 l))
    ∙ ap (λ (x : List ℕ). take 16 l ++ x) (blocks-whole k (drop 16 l))
    ∙ take-append-drop 16 l

-- a part that is the whole list
pub whole_from : (l : List ℕ) (i n : ℕ) → i ≡ 0 → length l ≤ n → take n (drop i l) ≡ l
whole_from l i n e h = ap (λ (j : ℕ). take n (drop j l)) e ∙ take_all n l h

pub ruleset whole = (arith, take_all, whole_from)

-- the blocks of a list l that is the whole, mixed into s, and then the rest
pub blocks-done : (k s : ℕ) (l all : List ℕ) {sum : ℕ} {front : List (List ℕ)} {rest : List ℕ} →
    front ≡ first_chunks 16 k l → rest ≡ drop (k * 16) l → sum ≡ mixed_all s (flatten front) → l ≡ all →
    mixed_all sum rest ≡ mixed_all s all
blocks-done k s l all f r e q =
    ap₂ mixed_all (e ∙ ap (λ (x : List (List ℕ)). mixed_all s (flatten x)) f) r
    ∙ sym (mixed_all-append s (flatten (first_chunks 16 k l)) (drop (k * 16) l))
    ∙ ap (mixed_all s) (blocks-whole k l ∙ q)

-- one byte by its weight
pub weights-turn : (l : List ℕ) (i w s s' all : ℕ) → i < length l → w ≡ weight (length l - suc i) → s' ≡ s + w * get_or l i 0 → s + weighed (drop i l) ≡ all → s' + weighed (drop (i + 1) l) ≡ all
weights-turn l i w s s' all h f e q =
    let b : ℕ = get_or l i 0 in
    let p : weighed (drop i l) ≡ w * b + weighed (drop (i + 1) l) =
    ap weighed (drop-cons l i 0 h)
    ∙ ap (λ (n : ℕ). weight n * b + weighed (drop (suc i) l)) (length-drop (suc i) l)
    ∙ ap (λ (v : ℕ). v * b + weighed (drop (suc i) l)) (sym f)
    ∙ ap (λ (n : ℕ). w * b + weighed (drop n l)) (sym (add-one i)) in
    omega (arith, p)

-- a byte times its weight
pub weighed-small : (w b : ℕ) → w < 2 ^ 32 → b < 256 → w * b < 2 ^ 40
weighed-small w b h l =
    let m : b ≤ 255 = omega arith in
    omega (arith, mul-le-mul_left w m)
