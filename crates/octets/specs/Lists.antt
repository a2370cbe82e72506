-- Lists by their index, a part of a list, and one list written over another. Assumes nothing.
use Rattle.std.specs.Prelude.{◌≡◌, refl, List, [], ◌∷◌, ◌++◌, ℕ, zero, suc, ◌+◌, ◌<◌, ◌≤◌, length, get_or, take, drop}
use Rattle.std.proofs.Common.{sym, ap, ap₂, ◌∙◌, append-nil, add-zero, add-suc, suc-add, not-suc-le-zero, le_of_suc-le-suc, arith, length-append, length-drop, drop_of_length-le, take-append-drop, length-take-le, drop-cons, get_or-drop, get_or-take}

-- one element equal, and the rest
pub cons : {a b : ℕ} {s t : List ℕ} → a ≡ b → s ≡ t → ◌≡◌ {A = List ℕ} (a ∷ s) (b ∷ t)
cons p q = ap₂ (λ (x : ℕ) (l : List ℕ). x ∷ l) p q

-- f at n numbers, from j on
abbrev pub table : {A : Type 0} → (ℕ → A) → ℕ → ℕ → List A
table f zero j = []
table f (suc n) j = f j ∷ table f n (suc j)

pub length-table : {A : Type 0} (f : ℕ → A) (n j : ℕ) → length (table f n j) ≡ n
length-table f zero j = refl
length-table f (suc n) j = ap suc (length-table f n (suc j))

pub get_or-table : {A : Type 0} (f : ℕ → A) (n j i : ℕ) (d : A) → i < n → get_or (table f n j) i d ≡ f (j + i)
get_or-table f zero j i d h = absurd (not-suc-le-zero h)
get_or-table f (suc n) j zero d h = ap f (sym (add-zero j))
get_or-table f (suc n) j (suc i) d h = get_or-table f n (suc j) i d (le_of_suc-le-suc h) ∙ ap f (suc-add j i ∙ sym (add-suc j i))

-- what holds of f everywhere, and of the default, holds of each element
pub table-all : {A : Type 0} (P : A → Type 0) (f : ℕ → A) (d : A) → ((m : ℕ) → P (f m)) → P d → (n j i : ℕ) → P (get_or (table f n j) i d)
table-all P f d h hd zero j i = hd
table-all P f d h hd (suc n) j zero = h j
table-all P f d h hd (suc n) j (suc i) = table-all P f d h hd n (suc j) i

pub table-ext : {A : Type 0} (f g : ℕ → A) (n j : ℕ) → ((i : ℕ) → j ≤ i → i < j + n → f i ≡ g i) → table f n j ≡ table g n j
table-ext f g zero j h = refl
table-ext f g (suc n) j h = ap₂ (λ x t. x ∷ t) (h j (omega arith) (omega arith)) (table-ext f g n (suc j) (λ i p q. h i (omega arith) (omega arith)))

-- a list is the table of its elements
pub tabled : {A : Type 0} (f : ℕ → A) (n j : ℕ) (l : List A) (d : A) → j + n ≡ length l → ((i : ℕ) → i < length l → get_or l i d ≡ f i) → drop j l ≡ table f n j
tabled f zero j l d e h = drop_of_length-le l {i = j} (omega arith)
tabled f (suc n) j l d e h =
    drop-cons l j d (omega arith)
    ∙ ap₂ (λ x t. x ∷ t) (h j (omega arith)) (tabled f n (suc j) l d (omega arith) h)

-- n elements of l, from place `at` on. Shut: with a numeral for n the library's own take computes to as many cases
unfoldable pub part : {A : Type 0} → List A → ℕ → ℕ → List A
part l at n = take n (drop at l)

pub length_part : {A : Type 0} (l : List A) (at n : ℕ) → at + n ≤ length l → length (part l at n) ≡ n
unfolding part
length_part l at n h = length-take-le n (drop at l) (omega (arith, length-drop at l))

pub part-long : {A : Type 0} (l : List A) (at n : ℕ) {r : List A} → at + n ≤ length l → r ≡ part l at n → length r ≡ n
part-long l at n h e = ap length e ∙ length_part l at n h

pub get_or-part : {A : Type 0} (l : List A) (at n i : ℕ) (d : A) → i < n → get_or (part l at n) i d ≡ get_or l (at + i) d
unfolding part
get_or-part l at n i d h = get_or-take n (drop at l) i d h ∙ get_or-drop at l i d

-- s written over d, from place `at` on
unfoldable pub over : List ℕ → ℕ → List ℕ → List ℕ
over d at s = take at d ++ s ++ drop (at + length s) d

pub length_over : (d : List ℕ) (at : ℕ) (s : List ℕ) → at + length s ≤ length d → length (over d at s) ≡ length d
unfolding over
length_over d at s h =
    length-append (take at d ++ s) (drop (at + length s) d)
    ∙ ap₂ ◌+◌ (length-append (take at d) s ∙ ap (λ (n : ℕ). n + length s) (length-take-le at d (omega arith))) (length-drop (at + length s) d)
    ∙ omega arith

pub over_none : (d : List ℕ) (at : ℕ) → over d at [] ≡ d
unfolding over
over_none d at =
    ap₂ (λ (x y : List ℕ). x ++ y) (append-nil (take at d)) (ap (λ (n : ℕ). drop n d) (add-zero at))
    ∙ take-append-drop at d
