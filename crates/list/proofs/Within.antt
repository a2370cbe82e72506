-- What the code has in hand, as the proofs of its functions cite it. Assumes nothing.
use mathlib.Core.Path.{◌≡◌, refl, sym, ap, ◌∙◌}
use mathlib.Core.Bool.{Bool, true, false}
use Rattle.std.specs.Prelude.{Some, None}
use mathlib.Core.List.{List}
use Prim.Native.Nat.{ℕ, ◌+◌, ◌*◌, ◌-◌, ◌<◌, ◌≤◌, min}
use native.Mathlib.Omega.{arith}
use native.Mathlib.Numerals.{add-one}
use borrow.Author.Tests.{leb-true, leb-false, lt-leb, lt-ltb, le-ltb}
use lib.Dec.{leb}
use lib.ListN.{length, get_or, take, get_or-eq_default}
use lib.Seq.{take-suc}
use Rattle.octets.specs.Lists.{part}
use Rattle.list.specs.declared.Length.{Length}
use Rattle.list.specs.declared.Entry.{Entry}
use Rattle.list.specs.Ber.{unsigned, fitting, length_at, entry_at, next_place, head, walked}
use Rattle.list.specs.Laws.{largest, unsigned-more, length-sized, sized-reach, no-head, stuck, walked-add, walked-back}

-- the number in the bytes before a place, and with the byte at it
least-of : (u b : ℕ) → min (min u largest * 256 + b) largest ≡ min (u * 256 + b) largest
least-of u b = omega arith

pub number-turn : (s : List ℕ) (i v r : ℕ) → i < length s → v ≡ min (unsigned (take i s)) largest → r ≡ min (v * 256 + get_or s i 0) largest → r ≡ min (unsigned (take (i + 1) s)) largest
number-turn s i v r l e q =
    let x : unsigned (take (i + 1) s) ≡ unsigned (take i s) * 256 + get_or s i 0 =
    ap (λ (n : ℕ). unsigned (take n s)) (add-one i) ∙ ap unsigned (take-suc s i 0 l) ∙ unsigned-more (take i s) (get_or s i 0) in
    q ∙ ap (λ (n : ℕ). min (n * 256 + get_or s i 0) largest) e ∙ least-of (unsigned (take i s)) (get_or s i 0) ∙ ap (λ (n : ℕ). min n largest) (sym x)

-- what does not fit is no length; a number over the largest usize fits as little as the largest usize
over_none : (d : List ℕ) (v n : ℕ) → length d < n + v → fitting d v n ≡ None
unfolding fitting
over_none d v n h = simp (lt-leb (n + v) (length d) h)

fits_by : (d : List ℕ) (u n : ℕ) (b : Bool) → leb (n + u) (length d) ≡ b → 0 < n → length d ≤ largest → fitting d (min u largest) n ≡ fitting d u n
fits_by d u n true e z h = let f = leb-true (n + u) (length d) e in let q : min u largest ≡ u = omega arith in rw q
fits_by d u n false e z h = let f = leb-false (n + u) (length d) e in over_none d (min u largest) n (omega arith) ∙ sym (over_none d u n f)

-- the definite length at a place, by its first byte
module _ (d : List ℕ) (p : ℕ) where
  pub length-past : length d ≤ p → length_at d p ≡ None
  unfolding length_at
  length-past h = simp (get_or-eq_default d 0 h, over_none d 0 (p + 1) (omega arith))

  pub length-short : get_or d p 0 < 0x80 → length_at d p ≡ fitting d (get_or d p 0) (p + 1)
  unfolding length_at
  length-short h = simp (lt-ltb (get_or d p 0) 0x80 h)

  pub length-80 : get_or d p 0 ≡ 0x80 → length_at d p ≡ None
  unfolding length_at
  length-80 e = simp e

  pub length-FF : 0xFF ≤ get_or d p 0 → length_at d p ≡ None
  unfolding length_at
  length-FF h = simp (le-ltb (get_or d p 0) 0x80 (omega arith), lt-ltb 0x80 (get_or d p 0) (omega arith), le-ltb (get_or d p 0) 0xFF h)

  module _ (l : 0x80 < get_or d p 0) (h : get_or d p 0 < 0xFF) where
    long-is : length_at d p ≡ fitting d (unsigned (part d (p + 1) (get_or d p 0 - 0x80))) (p + 1 + (get_or d p 0 - 0x80))
    unfolding length_at
    long-is = simp (le-ltb (get_or d p 0) 0x80 (omega arith), lt-ltb 0x80 (get_or d p 0) l, lt-ltb (get_or d p 0) 0xFF h)

    pub length_cut : length d < p + 1 + (get_or d p 0 - 0x80) → length_at d p ≡ None
    length_cut f = long-is ∙ over_none d _ (p + 1 + (get_or d p 0 - 0x80)) (omega arith)

    -- with its number v read up to place n
    pub length-long : (v n : ℕ) → length d ≤ largest → n ≡ p + 1 + (get_or d p 0 - 0x80) → v ≡ min (unsigned (part d (p + 1) (n - (p + 1)))) largest → length_at d p ≡ fitting d v n
    length-long v n f q e =
        let k : n - (p + 1) ≡ get_or d p 0 - 0x80 = omega arith in
        long-is ∙ rw (← q, ← k) (sym (ap (λ (x : ℕ). fitting d x n) e ∙ fits_by d (unsigned (part d (p + 1) (n - (p + 1)))) n _ refl (omega arith) f))

-- what a length speaks of is in the data
pub next-within : (d : List ℕ) (p : ℕ) (l : Length) → length_at d p ≡ Some l → l.next + l.value ≤ length d
next-within d p l e = (sized-reach (length-sized d p l e)).fits

-- the two bytes of an entry are there
pub entry-within : (d : List ℕ) (p : ℕ) (l : Length) → length_at d p ≡ Some l → l.value ≡ 2 → l.next + 2 ≤ length d
entry-within d p l e q = let h = next-within d p l e in omega arith

-- fewer than two bytes have no head
pub head-past : (d : List ℕ) → length d < 2 → head d ≡ None
head-past d h = let q = get_or-eq_default d 0 {n = 1} (omega arith) in no-head d (λ z. omega arith) (length-past d 1 (omega arith))

-- a turn of the walk
pub walk_turn : (d : List ℕ) (at p j : ℕ) (e : Entry) → p ≡ walked d at j → Some e ≡ entry_at d p → e.next ≡ walked d at (j + 1)
walk_turn d at p j e q r =
    ap (next_place p) r ∙ ap (λ (x : ℕ). next_place x (entry_at d x)) q ∙ sym (ap (walked d at) (add-one j) ∙ walked-back d at j)

-- where no entry stands the walk ends
pub walk-stuck : (d : List ℕ) (at p j n : ℕ) → j ≤ n → p ≡ walked d at j → None ≡ entry_at d p → p ≡ walked d at n
walk-stuck d at p j n h q r =
    let k : n ≡ j + (n - j) = omega arith in
    sym (ap (walked d at) k ∙ walked-add d at j (n - j) ∙ ap (λ (x : ℕ). walked d x (n - j)) (sym q) ∙ stuck d p (sym r) (n - j))
