-- What the library's methods on a word compute, in the terms of `Word`. Assumes nothing.
use Rattle.std.specs.Prelude.{◌≡◌, refl, List, ℕ, ◌+◌, ◌*◌, ◌/◌, ◌%◌, ◌^◌, ◌<◌, ◌≤◌, length, get_or, set}
use Rattle.std.proofs.Common.{sym, ap, ap₂, ◌∙◌, add-zero, zero-add, zero-mul, pow_pos, arith}
use Rattle.std.specs.Int.{w32, rotate_right, to_le_bytes}
use Rattle.std.specs.Int.Bits.{bit_or, or_zero_l, or_zero_r}
use Rattle.std.proofs.lemmas.Nat.{or_block}
use Rattle.std.proofs.lemmas.Slice.{put_mid-paste}
use Rattle.std.proofs.lemmas.List.Edits.{paste_more}
use Rattle.std.proofs.Math.Seq.{paste, paste-zero}
use borrow.Rule.Slice.PartMut.{put_mid}
use Rattle.column.specs.Word.{put, byte_at, turned}
use Rattle.column.specs.Laws.{byte-lt, eta, turn}

-- a high and a low part that do not meet
joined : (k a b : ℕ) → a < 2 ^ k → bit_or a (b * 2 ^ k) ≡ a + b * 2 ^ k
joined k a b h =
    let e : bit_or a (b * 2 ^ k) ≡ bit_or 0 b * 2 ^ k + bit_or a 0 = simp (zero-mul, zero-add, add-zero) at (or_block k 0 b a 0 h (pow_pos k)) in
    omega (arith, or_zero_l b, or_zero_r a)

pub right_8 : (t : ℕ) → t < 2 ^ 32 → rotate_right w32 t 8 ≡ turned 1 t
right_8 t h =
    let e : t * 2 ^ 24 % 2 ^ 32 ≡ t % 256 * 2 ^ 24 = omega arith in
    ap (bit_or (t / 256)) e ∙ joined 24 (t / 256) (t % 256) (omega arith) ∙ ap (λ (x : ℕ). x / 256 + x % 256 * 2 ^ 24) (eta t h) ∙ turn (byte_at t) (byte-lt t) 1 (omega arith)

pub right_16 : (t : ℕ) → t < 2 ^ 32 → rotate_right w32 t 16 ≡ turned 2 t
right_16 t h =
    let e : t * 2 ^ 16 % 2 ^ 32 ≡ t % 65536 * 2 ^ 16 = omega arith in
    ap (bit_or (t / 65536)) e ∙ joined 16 (t / 65536) (t % 65536) (omega arith) ∙ ap (λ (x : ℕ). x / 65536 + x % 65536 * 2 ^ 16) (eta t h) ∙ turn (byte_at t) (byte-lt t) 2 (omega arith)

put_paste : (b s : List ℕ) (at : ℕ) → at + 4 ≤ length b → length s ≡ 4 →
    set (set (set (set b at (get_or s 0 0)) (at + 1) (get_or s 1 0)) (at + 2) (get_or s 2 0)) (at + 3) (get_or s 3 0) ≡ paste b at s 4
put_paste b s at h k =
    ap (λ (x : List ℕ). set x (at + 3) (get_or s 3 0))
    (ap (λ (x : List ℕ). set x (at + 2) (get_or s 2 0))
    (ap (λ (x : List ℕ). set x (at + 1) (get_or s 1 0))
    (ap₂ (λ (x : List ℕ) (i : ℕ). set x i (get_or s 0 0)) (paste-zero b at s) (sym (add-zero at)) ∙ more 0 (omega arith) (omega arith))
    ∙ more 1 (omega arith) (omega arith))
    ∙ more 2 (omega arith) (omega arith))
    ∙ more 3 (omega arith) (omega arith)
  where
    more : (i : ℕ) → at + i < length b → i < length s → set (paste b at s i) (at + i) (get_or s i 0) ≡ paste b at s (i + 1)
    more i = paste_more b at s i 0

pub put_le : (b t : List ℕ) (at k w : ℕ) → at + 4 ≤ length b → k ≡ 4 → t ≡ to_le_bytes w32 w → put_mid at k b t ≡ put b at w
put_le b t at k w h e r = put_mid-paste at k b t (to_le_bytes w32 w) 4 r (omega arith) refl ∙ sym (put_paste b (to_le_bytes w32 w) at h refl)
    ∙ let e2 : w / 65536 % 256 ≡ w / 256 / 256 % 256 = omega arith in
    let e3 : w / 16777216 % 256 ≡ w / 256 / 256 / 256 % 256 = omega arith in
    ap₂ (λ (x y : ℕ). set (set (set (set b at (w % 256)) (at + 1) (w / 256 % 256)) (at + 2) x) (at + 3) y) e2 e3
