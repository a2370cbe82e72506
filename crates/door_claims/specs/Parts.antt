-- Parts of a list put together again, and the parts of what was put together. Assumes nothing.
use Rattle.std.specs.Prelude.{◌≡◌, refl, List, [], ◌∷◌, ◌++◌, map, ℕ, zero, suc, ◌+◌, ◌<◌, ◌≤◌, length, get_or, take, drop}
use Rattle.std.proofs.Common.{sym, ap, ◌∙◌, append_assoc, append-nil, add-one, arith, length-append, take-add, take_all, take_at, drop_at, drop-cons}
use Rattle.std.proofs.lemmas.List.{map-append}
use Rattle.octets.specs.Lists.{part}

-- a part, and what stands behind it
join : (l : List ℕ) (m n : ℕ) → part l 0 m ++ part l m n ≡ part l 0 (m + n)
unfolding part
join l m n = sym (take-add m n l)

part-all : (l : List ℕ) (n : ℕ) → length l ≤ n → part l 0 n ≡ l
unfolding part
part-all l n h = take_all n l h

pub part-cons : (l : List ℕ) (at n : ℕ) → at < length l → part l at (n + 1) ≡ get_or l at 0 ∷ part l (at + 1) n
unfolding part
part-cons l at n h = rw (add-one n, add-one at, drop-cons l at 0 h)

map-drop : (f : ℕ → ℕ) (n : ℕ) (l : List ℕ) → drop n (map f l) ≡ map f (drop n l)
map-drop f zero l = refl
map-drop f (suc n) [] = refl
map-drop f (suc n) (x ∷ l) = map-drop f n l

map-take : (f : ℕ → ℕ) (n : ℕ) (l : List ℕ) → take n (map f l) ≡ map f (take n l)
map-take f zero l = refl
map-take f (suc n) [] = refl
map-take f (suc n) (x ∷ l) = ap (λ (s : List ℕ). f x ∷ s) (map-take f n l)

pub map-part : (f : ℕ → ℕ) (l : List ℕ) (at n : ℕ) → part (map f l) at n ≡ map f (part l at n)
unfolding part
map-part f l at n = ap (take n) (map-drop f at l) ∙ map-take f n (drop at l)

-- five parts are the list, and so they are when each element is changed
pub joined : (l : List ℕ) (a b c d e : ℕ) → length l ≡ a + b + c + d + e → part l 0 a ++ part l a b ++ part l (a + b) c ++ part l (a + b + c) d ++ part l (a + b + c + d) e ≡ l
joined l a b c d e h = rw (join l a b, join l (a + b) c, join l (a + b + c) d, join l (a + b + c + d) e) (part-all l (a + b + c + d + e) (omega arith))

pub joined-map : (f : ℕ → ℕ) (l : List ℕ) (a b c d e : ℕ) → length l ≡ a + b + c + d + e →
    map f (part l 0 a) ++ map f (part l a b) ++ map f (part l (a + b) c) ++ map f (part l (a + b + c) d) ++ map f (part l (a + b + c + d) e) ≡ map f l
joined-map f l a b c d e h =
    rw (← map-append f (part l 0 a) (part l a b), ← map-append f _ (part l (a + b) c), ← map-append f _ (part l (a + b + c) d), ← map-append f _ (part l (a + b + c + d) e))
    (ap (map f) (joined l a b c d e h))

-- what stands in the middle
middle : (p q s : List ℕ) (at n : ℕ) {l : List ℕ} → l ≡ p ++ q ++ s → length p ≡ at → length q ≡ n → part l at n ≡ q
unfolding part
middle p q s at n e hp hq = ap (λ (x : List ℕ). take n (drop at x)) (e ∙ append_assoc p q s) ∙ ap (take n) (drop_at p (q ++ s) at hp) ∙ take_at q s n hq

-- five lists put together, taken apart
pub record Apart (l a b c d e : List ℕ) (i j k m n : ℕ) : Type 0 where
  pub first : part l 0 i ≡ a
  pub second : part l i j ≡ b
  pub third : part l (i + j) k ≡ c
  pub fourth : part l (i + j + k) m ≡ d
  pub fifth : part l (i + j + k + m) n ≡ e

pub apart : (a b c d e : List ℕ) (i j k m n : ℕ) → length a ≡ i → length b ≡ j → length c ≡ k → length d ≡ m → length e ≡ n → Apart (a ++ b ++ c ++ d ++ e) a b c d e i j k m n
apart a b c d e i j k m n ha hb hc hd he =
    record {
      first = middle [] a (b ++ c ++ d ++ e) 0 i (simp append_assoc) refl ha;
      second = middle a b (c ++ d ++ e) i j (simp append_assoc) ha hb;
      third = middle (a ++ b) c (d ++ e) (i + j) k (simp append_assoc) (simp length-append (omega arith)) hc;
      fourth = middle (a ++ b ++ c) d e (i + j + k) m refl (simp length-append (omega arith)) hd;
      fifth = middle (a ++ b ++ c ++ d) e [] (i + j + k + m) n (sym (append-nil (a ++ b ++ c ++ d ++ e))) (simp length-append (omega arith)) he;
    }
