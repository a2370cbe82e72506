-- The folds and loops of a load: one looks for an element, one for a repeated number, one for the largest reply size, one copies into slots. Assumes nothing.
use Prim.Native.Nat.{ℕ, suc, ◌+◌, ◌-◌, ◌<◌, ◌≤◌}
use Rattle.std.proofs.Common.{◌≡◌, refl, sym, ap, ap₂, ◌∙◌, arith, ltb-true, ltb-false, Bool, true, false, ◌||◌, List, [], ◌∷◌, ◌++◌, map, max, ltb, cond, length, get_or, take, drop, set, length-take-le, add-one, append_assoc, drop-cons, get_or-take}
use mathlib.Core.Bool.{or-false, or_assoc}
use Rattle.std.specs.List.{fold, take-map}
use Rattle.std.specs.Fn.{Called}
use Rattle.std.specs.Array.{IsMapOf}
use denote.Param.Members.{Mut}
use Rattle.std.proofs.lemmas.List.{same_lists, get_or-map, drop-replicate, map-append}
use Rattle.std.proofs.Math.ListN.{replicate, length-map}
use Rattle.std.proofs.Math.Seq.{set-append_seam, take-suc}
use Rattle.plaid_types.specs.declared.Mode.{Mode}
use Rattle.load.specs.Load.{past_mode, some, repeated, filled, reply_size_for, larger, largest_size}
use Rattle.load.proofs.Laws.{larger-assoc, larger-than-none}

-- the look for an element
pub fold-some : {A : Type 0} (p : A → Bool) (l : List A) (r : Bool) → fold (λ b x. b || p x) r l ≡ (r || some p l)
fold-some p [] r = sym (or-false r)
fold-some p (x ∷ xs) r = fold-some p xs (r || p x) ∙ or_assoc r (p x) (some p xs)

-- the look for the largest reply size
pub max-larger : (a b : ℕ) → max a b ≡ larger a b
max-larger a b = by (ltb a b) refl
  where
    by : (t : Bool) → ltb a b ≡ t → max a b ≡ cond t b a
    by true e = omega (arith, ltb-true a b e)
    by false e = omega (arith, ltb-false a b e)

pub fold-size : (l : List Mode) (n : ℕ) → fold (λ (s : ℕ) (m : Mode). max s (reply_size_for m.len)) n l ≡ larger n (largest_size l)
fold-size [] n = sym (larger-than-none n)
fold-size (m ∷ ms) n =
    fold-size ms (max n (reply_size_for m.len)) ∙ ap (λ (x : ℕ). larger x (largest_size ms)) (max-larger n (reply_size_for m.len))
    ∙ larger-assoc n (reply_size_for m.len) (largest_size ms)

-- the copy into empty slots, of which the first i are filled
next-filled : {B : Type 0} (p : List B) (d x : B) (j i : ℕ) → length p ≡ i → set (p ++ replicate (suc j) d) i x ≡ (p ++ (x ∷ [])) ++ replicate j d
next-filled p d x j i n = rw (← n) (set-append_seam p d (replicate j d) x ∙ sym (append_assoc p (x ∷ []) (replicate j d)))

pub filled-more : {A B : Type 0} (f : A → B) (d : B) (s : List A) (k i : ℕ) (z : A) {t : List B} {x : B} → i < length s → length s ≤ k →
    t ≡ filled k d (map f (take i s)) → x ≡ f (get_or s i z) → set t i x ≡ filled k d (map f (take (i + 1) s))
unfolding filled
filled-more {A} {B} f d s k i z {t} {x} h g e q =
    let p : List B = map f (take i s) in
    let more : List B = map f (take (i + 1) s) in
    let n : length p ≡ i = length-map (take i s) f ∙ length-take-le i s (omega arith) in
    let u : more ≡ p ++ (f (get_or s i z) ∷ []) = ap (λ j. map f (take j s)) (add-one i) ∙ ap (map f) (take-suc s i z h) ∙ map-append f (take i s) (get_or s i z ∷ []) in
    let m : length more ≡ i + 1 = length-map (take (i + 1) s) f ∙ length-take-le (i + 1) s (omega arith) in
    let w : k - length p ≡ suc (k - length more) = omega arith in
    ap (λ l. set l i x) (e ∙ ap (λ j. p ++ replicate j d) w)
    ∙ next-filled p d x (k - length more) i n
    ∙ ap (λ l. l ++ replicate (k - length more) d) (ap (λ y. p ++ (y ∷ [])) q ∙ sym u)

-- what is left of a list of zeros
pub zeros-left : (a w : List ℕ) (k : ℕ) {b : List ℕ} → b ≡ a → w ≡ filled k 0 [] → length a ≤ k → b ++ drop (length a) w ≡ filled k 0 a
unfolding filled
zeros-left a w k e q h =
    let z : k - 0 ≡ k = omega arith in
    rw e (ap (λ x. a ++ drop (length a) x) (q ∙ ap (λ m. replicate m 0) z) ∙ ap (λ x. a ++ x) (drop-replicate (length a) k 0))

-- the numbers of the first n elements of an array
pub given-ids : {F A : Type 0} (g : Mut F (A × Unit {0}) ℕ) (h : A → ℕ) (f : F) (l : List A) (ids : List ℕ) (d : A) {k : ℕ} (n : ℕ) {r : Bool} → IsMapOf g f l ids k → length l ≡ k →
    ((x : A) (y : ℕ) (p q : F) → Called g p (x, tt) y q → y ≡ h x) → r ≡ repeated (take n ids) → r ≡ repeated (map h (take n l))
given-ids g h f l ids d {k} n m z w e =
    let s : ids ≡ map h l =
    same_lists ids (map h l) (m.long ∙ sym z ∙ sym (length-map l h))
    (λ i x b. let c = m.at i d x (omega (arith, m.long)) in w _ _ _ _ c.2 ∙ sym (get_or-map h l i d x (omega (arith, m.long)))) in
    e ∙ ap (λ x. repeated (take n x)) s ∙ ap repeated (take-map h n l)

-- One turn of a loop over the first n modes that looks for the largest reply size.
next : {A : Type 0} (l : List A) (n i : ℕ) (d : A) → i < n → n ≤ length l → drop i (take n l) ≡ get_or l i d ∷ drop (i + 1) (take n l)
next {A = A} l n i d h k =
    drop-cons (take n l) i d (omega (arith, length-take-le n l k))
    ∙ ap₂ (λ (x : A) (m : ℕ). x ∷ drop m (take n l)) (get_or-take n l i d h) (sym (add-one i))

pub size-turn : (l : List Mode) (n i size mine more all : ℕ) → i < n → n ≤ length l → mine ≡ reply_size_for (get_or l i past_mode).len → more ≡ larger size mine →
    larger size (largest_size (drop i (take n l))) ≡ all → larger more (largest_size (drop (i + 1) (take n l))) ≡ all
size-turn l n i size mine more all h k e m s =
    ap (λ (x : ℕ). larger x (largest_size (drop (i + 1) (take n l)))) (m ∙ ap (larger size) e)
    ∙ larger-assoc size (reply_size_for (get_or l i past_mode).len) (largest_size (drop (i + 1) (take n l)))
    ∙ sym (ap (λ (x : List Mode). larger size (largest_size x)) (next l n i past_mode h k))
    ∙ s
