-- The record of a mode as a part that lies within the area, and the reply text in its buffer. Assumes nothing.
use mathlib.Core.Path.{◌≡◌, refl, sym, ap, ◌∙◌}
use mathlib.Core.Bool.{Bool, true, false, cond}
use mathlib.Core.List.{List, ◌++◌}
use Prim.Native.Nat.{ℕ, ◌+◌, ◌-◌, ◌*◌, ◌≤◌, min}
use native.Mathlib.Omega.{arith}
use lib.Dec.{ltb}
use lib.ListN.{length, take, drop, replicate, length-append, length-take, length-drop, length-replicate, drop_of_length-le}
use lib.Seq.{take_all}
use borrow.Author.Tests.{ltb-true, ltb-false}
use Rattle.octets.specs.Lists.{part, over}
use Rattle.padding.specs.Method2.{padded, pad_buffer}
use Rattle.plaid_types.specs.declared.ModeSlot.{ModeSlot}
use Rattle.final_command.specs.Final.{least, record_of, body_of, reply_text}
use Rattle.final_command.proofs.Buffers.{over-behind, over-padded}

least-by : (a b : ℕ) (t : Bool) → ltb a b ≡ t → min a b ≡ cond t a b
least-by a b true e = omega (arith, ltb-true a b e)
least-by a b false e = omega (arith, ltb-false a b e)

pub min-least : (a b : ℕ) → min a b ≡ least a b
min-least a b = least-by a b (ltb a b) refl

-- taking at most what is there, from at most the end on
take-least : {A : Type 0} (n : ℕ) (l : List A) (b : Bool) → ltb n (length l) ≡ b → take (cond b n (length l)) l ≡ take n l
take-least n l true e = refl
take-least n l false e = take_all (length l) l (omega arith) ∙ sym (take_all n l (ltb-false n (length l) e))

drop-least : {A : Type 0} (n : ℕ) (l : List A) (b : Bool) → ltb n (length l) ≡ b → drop (cond b n (length l)) l ≡ drop n l
drop-least n l true e = refl
drop-least n l false e = drop_of_length-le l {i = length l} (omega arith) ∙ sym (drop_of_length-le l (ltb-false n (length l) e))

pub record-within : (area : List ℕ) (m : ModeSlot) (a most k : ℕ) → a ≡ least m.start (length area) → most ≡ least m.len 64 → k ≡ least most (length area - a) →
    take (a + k - a) (drop a area) ≡ record_of area m
unfolding record_of part
record-within area m a most k ea em ek =
    let r : List ℕ = drop a area in
    let i : a + k - a ≡ k = omega arith in
    let l : length area - a ≡ length r = sym (length-drop a area) in
    let d : r ≡ drop m.start area = ap (λ (n : ℕ). drop n area) ea ∙ drop-least m.start area (ltb m.start (length area)) refl in
    ap (λ (n : ℕ). take n r) (i ∙ ek ∙ ap (least most) l)
    ∙ take-least most r (ltb most (length r)) refl
    ∙ ap (λ (n : ℕ). take n r) em
    ∙ ap (take (least m.len 64)) d

least-most : (a b : ℕ) (t : Bool) → ltb a b ≡ t → cond t a b ≤ b
least-most a b true e = omega (arith, ltb-true a b e)
least-most a b false e = omega arith

take-most : (n : ℕ) (l : List ℕ) → length (take n l) ≤ n
take-most n l = omega (arith, length-take n l)

pub record-most : (area : List ℕ) (m : ModeSlot) → length (record_of area m) ≤ 64
unfolding record_of part
record-most area m = omega (arith, take-most (least m.len 64) (drop m.start area), least-most m.len 64 (ltb m.len 64) refl)

pub source-most : (t : Bool) (area fresh : List ℕ) (m : ModeSlot) (n : ℕ) → n ≤ 96 → length (cond t (record_of area m) (part fresh 0 n)) ≤ 96
unfolding part
source-most true area fresh m n h = omega (arith, record-most area m)
source-most false area fresh m n h = omega (arith, take-most n fresh)

pub record-long : (ok : Bool) (area fresh s : List ℕ) (m : ModeSlot) (n : ℕ) → ok ≡ true → s ≡ cond ok (record_of area m) (part fresh 0 n) → length s ≤ 64
record-long ok area fresh s m n y q =
    let r : s ≡ record_of area m = q ∙ ap (λ (t : Bool). cond t (record_of area m) (part fresh 0 n)) y in
    omega (arith, ap length r, record-most area m)

-- a reply text in its buffer z: with the record, its payload f and DivData, each behind the other, and padding
pub text-accepted : (ok : Bool) (area fresh div z s f b₁ b₂ b₃ b₄ : List ℕ) (m : ModeSlot) (size k : ℕ) → ok ≡ true → s ≡ cond ok (record_of area m) (part fresh 0 (16 * size)) → size ≤ 6 →
    k ≡ 16 * (size - 2) - length s → f ≡ replicate k 0 → b₁ ≡ over z 0 s → b₂ ≡ over b₁ (length s) f → b₃ ≡ over b₂ (length s + k) div → b₄ ≡ pad_buffer b₃ (length s + k + 16) →
    length z ≡ 96 → length div ≡ 16 → b₄ ≡ over z 0 (reply_text ok area m div fresh size)
unfolding reply_text body_of
text-accepted ok area fresh div z s f b₁ b₂ b₃ b₄ m size k y qs h qk qf q₁ q₂ q₃ q₄ lz ld =
    let r : s ≡ record_of area m = qs ∙ ap (λ (t : Bool). cond t (record_of area m) (part fresh 0 (16 * size))) y in
    let l : length s ≤ 64 = record-long ok area fresh s m (16 * size) y qs in
    let lb : length (s ++ f) ≡ length s + k = length-append s f ∙ ap (λ (n : ℕ). length s + n) (ap length qf ∙ length-replicate k 0) in
    let q : b₂ ≡ over z 0 (s ++ f) = q₂ ∙ ap (λ (b : List ℕ). over b (length s) f) q₁ ∙ over-behind z s f (length s) refl in
    q₄
    ∙ ap (λ (b : List ℕ). pad_buffer b (length s + k + 16)) (q₃ ∙ ap (λ (b : List ℕ). over b (length s + k) div) q)
    ∙ over-padded z (s ++ f) div (length s + k) (length s + k + 16) lb ld refl (omega arith)
    ∙ ap (λ (x : List ℕ). over z 0 (padded ((s ++ x) ++ div))) (qf ∙ ap (λ (n : ℕ). replicate n 0) qk)
    ∙ ap (λ (x : List ℕ). over z 0 (padded ((x ++ replicate (16 * (size - 2) - length x) 0) ++ div))) r
    ∙ ap (λ (t : Bool). over z 0 (cond t (padded ((record_of area m ++ replicate (16 * (size - 2) - length (record_of area m)) 0) ++ div)) (part fresh 0 (16 * size)))) (sym y)

-- or fresh bytes alone
pub text-fresh : (ok : Bool) (area fresh div z s b₁ : List ℕ) (m : ModeSlot) (size : ℕ) → ok ≡ false → s ≡ cond ok (record_of area m) (part fresh 0 (16 * size)) →
    b₁ ≡ over z 0 s → b₁ ≡ over z 0 (reply_text ok area m div fresh size)
unfolding reply_text
text-fresh ok area fresh div z s b₁ m size y qs q₁ =
    q₁
    ∙ ap (over z 0) (qs ∙ ap (λ (t : Bool). cond t (record_of area m) (part fresh 0 (16 * size))) y)
    ∙ ap (λ (t : Bool). over z 0 (cond t (padded (body_of (record_of area m) size ++ div)) (part fresh 0 (16 * size)))) (sym y)
