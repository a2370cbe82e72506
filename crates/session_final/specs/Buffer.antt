-- A text written over the front of a buffer, and the parts of STR2 in it. Assumes nothing.
use Rattle.std.specs.Prelude.{◌≡◌, length, get_or, replicate}
use Rattle.std.proofs.Common.{sym, ◌∙◌, arith, length-append, drop_at}
use Rattle.std.proofs.Math.Path.{ap}
use mathlib.Core.List.{List, ◌∷◌, ◌++◌, append_assoc}
use Prim.Native.Nat.{ℕ, ◌+◌, ◌*◌, ◌/◌, ◌%◌}
use Rattle.std.proofs.Math.ListN.{take, drop}
use Rattle.std.proofs.Math.Seq.{take_at}
use Rattle.octets.specs.Lists.{part, over}
use Rattle.octets.specs.Writes.{over-front, take-over}
use Rattle.padding.specs.Method2.{zero_bytes, padded}
use Rattle.plaid_types.specs.declared.OpModeId.{OpModeId}
use Rattle.reader_seal.specs.Seal.{str2}

-- the text is the buffer's front
pub over-part : (b s : List ℕ) (n : ℕ) → length s ≡ n → part (over b 0 s) 0 n ≡ s
unfolding part
over-part b s n e = take-over b s n e

-- a buffer with the padded STR2 over its front: its first two bytes are the mode, and RND2 follows
module _ (b : List ℕ) (mode : OpModeId) (rnd2 payload hash : List ℕ) where
  behind : List ℕ
  behind = 0x80 ∷ replicate (zero_bytes (length (str2 mode rnd2 payload hash))) 0

  text-is : over b 0 (padded (str2 mode rnd2 payload hash)) ≡ mode.0 / 256 ∷ mode.0 % 256 ∷ (rnd2 ++ (payload ++ hash ++ (behind ++ drop (length (padded (str2 mode rnd2 payload hash))) b)))
  unfolding padded str2 behind
  text-is =
      let t : List ℕ = rnd2 ++ (payload ++ hash) in
      let r : List ℕ = drop (length (padded (str2 mode rnd2 payload hash))) b in
      over-front b (padded (str2 mode rnd2 payload hash))
      ∙ ap (λ (x : List ℕ). mode.0 / 256 ∷ mode.0 % 256 ∷ x) (append_assoc t behind r ∙ append_assoc rnd2 (payload ++ hash) (behind ++ r))

  pub over-mode : get_or (over b 0 (padded (str2 mode rnd2 payload hash))) 0 0 * 256 + get_or (over b 0 (padded (str2 mode rnd2 payload hash))) 1 0 ≡ mode.0
  over-mode = ap (λ (x : List ℕ). get_or x 0 0 * 256 + get_or x 1 0) text-is ∙ omega arith

  pub over-rnd2 : (n : ℕ) → length rnd2 ≡ n → part (over b 0 (padded (str2 mode rnd2 payload hash))) 2 n ≡ rnd2
  unfolding part
  over-rnd2 n e =
      ap (λ (x : List ℕ). take n (drop 2 x)) text-is
      ∙ take_at rnd2 (payload ++ hash ++ (behind ++ drop (length (padded (str2 mode rnd2 payload hash))) b)) n e

-- the last bytes of STR2 are KeysHash
pub padded-hash : (mode : OpModeId) (rnd2 payload hash : List ℕ) (k n : ℕ) → 2 + length rnd2 + length payload ≡ k → length hash ≡ n →
    part (padded (str2 mode rnd2 payload hash)) k n ≡ hash
unfolding part padded str2
padded-hash mode rnd2 payload hash k n e f =
    let z : List ℕ = 0x80 ∷ replicate (zero_bytes (length (str2 mode rnd2 payload hash))) 0 in
    let p : List ℕ = mode.0 / 256 ∷ mode.0 % 256 ∷ (rnd2 ++ payload) in
    let q : padded (str2 mode rnd2 payload hash) ≡ p ++ (hash ++ z) =
    ap (λ (x : List ℕ). mode.0 / 256 ∷ mode.0 % 256 ∷ (x ++ z)) (sym (append_assoc rnd2 payload hash)) ∙ append_assoc p hash z in
    ap (λ (x : List ℕ). take n (drop k x)) q
    ∙ ap (take n) (drop_at p (hash ++ z) k (omega (arith, length-append rnd2 payload)))
    ∙ take_at hash z n f
