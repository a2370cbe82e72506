-- Padding written into a buffer, a byte at a time from the end of the text on. Assumes nothing.
use mathlib.Core.Path.{◌≡◌, sym, ap, ap₂, ◌∙◌}
use mathlib.Core.List.{List, ◌∷◌, ◌++◌, append_assoc}
use Prim.Native.Nat.{ℕ, suc, ◌+◌, ◌*◌, ◌<◌, ◌≤◌}
use native.Mathlib.Nat.{zero-add}
use native.Mathlib.Numerals.{add-one}
use native.Mathlib.Omega.{arith}
use borrow.Author.Tests.{le-leb, lt-leb}
use borrow.Rule.Slice.PartMut.{put_mid}
use lib.ListN.{length, set, take, drop, replicate, length-append, length-take, length-drop, length-set, length-replicate}
use lib.Seq.{length-take-le, append_snoc, take-suc-set, drop-set-lt, drop-drop}
use Rattle.octets.specs.Lists.{over}
use Rattle.padding.specs.Method2.{blocks_for, zero_bytes, padded, pad_answer, pad_buffer}
use Rattle.std.specs.Prelude.{Some, None}

-- a byte stored, and the rest written behind it
over-set : (d : List ℕ) (i v : ℕ) (s : List ℕ) → i < length d → over (set d i v) (i + 1) s ≡ over d i (v ∷ s)
unfolding over
over-set d i v s h =
    let m : i + 1 + length s ≡ i + suc (length s) = omega arith in
    rw (drop-set-lt (i + 1 + length s) d i v (omega arith), m, add-one, take-suc-set d i v h, append_snoc (take i d) v s)

-- what a part that was written leaves
pub put-over : (d s : List ℕ) (at n : ℕ) → length s ≡ n → put_mid at n d s ≡ over d at s
unfolding over
put-over d s at n h =
    ap (λ (x : List ℕ). take at d ++ (s ++ x)) (drop-drop n at d ∙ ap (λ (k : ℕ). drop (at + k) d) (sym h))
    ∙ sym (append_assoc (take at d) s (drop (at + length s) d))

-- the whole of it: the byte 0x80 and the zero bytes behind the text
behind-text : (d : List ℕ) (t : ℕ) → t ≤ length d → over d t (0x80 ∷ replicate (zero_bytes t) 0) ≡ over d 0 (padded (take t d))
unfolding over padded
behind-text d t h =
    let l : length (take t d) ≡ t = length-take-le t d h in
    rw (zero-add, length-append, l)

module _ (d : List ℕ) (t : ℕ) (fits : 16 * blocks_for t ≤ length d) where
  pub answer-fits : pad_answer (length d) t ≡ Some (16 * blocks_for t)
  unfolding pad_answer
  answer-fits = simp (le-leb (16 * blocks_for t) (length d) fits)

  pub buffer-fits : over (set d t 0x80) (t + 1) (replicate (zero_bytes t) 0) ≡ pad_buffer d t
  unfolding pad_buffer
  buffer-fits =
      over-set d t 0x80 (replicate (zero_bytes t) 0) (omega arith)
      ∙ behind-text d t (omega arith)
      ∙ simp (le-leb (16 * blocks_for t) (length d) fits)

  -- the same by a part that is filled: it starts one past the byte 0x80
  pub buffer-filled : (s : List ℕ) (at n : ℕ) →
      at ≡ t + 1 →
      n ≡ zero_bytes t →
      s ≡ replicate (length (take n (drop at (set d t 0x80)))) 0 →
      put_mid at n (set d t 0x80) s ≡ pad_buffer d t
  buffer-filled s at n e k h =
      let m : length (take n (drop at (set d t 0x80))) ≡ zero_bytes t = simp (length-take, length-drop, length-set) (omega arith) in
      let z : s ≡ replicate (zero_bytes t) 0 = h ∙ ap (λ (x : ℕ). replicate {A = ℕ} x 0) m in
      put-over (set d t 0x80) s at n (ap length z ∙ length-replicate (zero_bytes t) 0 ∙ sym k)
      ∙ ap₂ (over (set d t 0x80)) e z
      ∙ buffer-fits

module _ (d : List ℕ) (t : ℕ) (short : length d < 16 * blocks_for t) where
  pub answer-short : pad_answer (length d) t ≡ None
  unfolding pad_answer
  answer-short = simp (lt-leb (16 * blocks_for t) (length d) short)

  pub buffer-short : pad_buffer d t ≡ d
  unfolding pad_buffer
  buffer-short = simp (lt-leb (16 * blocks_for t) (length d) short)
