-- Blocks in a chain, each made of itself and what the one before hands on: lengths, bytes, and that one chain undoes another.
-- Both ways of CBC are such chains. Assumes nothing.
use Rattle.std.specs.Prelude.{◌≡◌, take, drop}
use Rattle.std.proofs.Math.Path.{refl, ap, ap₂}
use Rattle.std.proofs.Common.{sym, ◌∙◌, take-append-drop, take_at, drop_at, length-take-le}
use mathlib.Core.List.{List, [], ◌++◌, append_assoc, append-nil}
use Prim.Native.Nat.{ℕ, zero, suc, ◌+◌, ◌*◌, ◌/◌, ◌<◌, ◌≤◌}
use native.Mathlib.Omega.{arith}
use Rattle.std.proofs.Math.ListN.{length, length-append, length-drop}
use Rattle.std.proofs.Math.Seq.{take_all, drop-drop}
use Rattle.std.proofs.lemmas.List.{take-append-le, drop-append-le}
use Rattle.octets.specs.Bytes.{Bytes, Block}
use Rattle.octets.specs.Lists.{part, length_part}
use Rattle.octets.specs.ByteLists.{append-bytes, take-bytes, drop-bytes}

-- n blocks of s: `out` makes a block, `next` what it hands on
unfoldable pub chain : (out next : List ℕ → List ℕ → List ℕ) → List ℕ → ℕ → List ℕ → List ℕ
chain out next c zero s = []
chain out next c (suc n) s = out c (part s 0 16) ++ chain out next (next c (part s 0 16)) n (drop 16 s)

-- the whole blocks of s, and what stands behind them as it was
unfoldable pub whole : (out next : List ℕ → List ℕ → List ℕ) → List ℕ → List ℕ → List ℕ
whole out next c s = chain out next c (length s / 16) s ++ drop (16 * (length s / 16)) s

part-block : (s : List ℕ) → Bytes s → 16 ≤ length s → Block (part s 0 16)
unfolding part
part-block s b h = record { long = length_part s 0 16 (omega arith); byte = take-bytes 16 s b }

-- the first block, and what is behind it
first_of : (a t : List ℕ) → length a ≡ 16 → part (a ++ t) 0 16 ≡ a
unfolding part
first_of a t e = take_at a t 16 e

pub first-behind : (s : List ℕ) → part s 0 16 ++ drop 16 s ≡ s
unfolding part
first-behind s = take-append-drop 16 s

module _ (out next : List ℕ → List ℕ → List ℕ) where
  -- what stands behind the n blocks does not matter
  pub chain-front : (n : ℕ) (c s t : List ℕ) → 16 * n ≤ length s → chain out next c n (s ++ t) ≡ chain out next c n s
  unfolding chain part
  chain-front zero c s t h = refl
  chain-front (suc n) c s t h =
      ap₂ (λ (p r : List ℕ). out c p ++ chain out next (next c p) n r) (take-append-le 16 s t (omega arith)) (drop-append-le 16 s t (omega arith))
      ∙ ap (λ (x : List ℕ). out c (part s 0 16) ++ x) (chain-front n (next c (part s 0 16)) (drop 16 s) t (omega (arith, length-drop 16 s)))

  pub whole-more : (c s : List ℕ) → 16 ≤ length s → whole out next c s ≡ out c (part s 0 16) ++ whole out next (next c (part s 0 16)) (drop 16 s)
  unfolding whole chain
  whole-more c s h =
      let m : length s / 16 ≡ suc (length (drop 16 s) / 16) = omega (arith, length-drop 16 s) in
      let k : 16 * suc (length (drop 16 s) / 16) ≡ 16 + 16 * (length (drop 16 s) / 16) = omega arith in
      rw (m, k, ← drop-drop, append_assoc)

  pub whole-none : (c s : List ℕ) → length s < 16 → whole out next c s ≡ s
  unfolding whole chain
  whole-none c s h =
      let m : length s / 16 ≡ 0 = omega arith in
      rw m

  -- n blocks, and less than a block behind them
  pub whole_split : (n : ℕ) (c s t : List ℕ) → length s ≡ 16 * n → length t < 16 → whole out next c (s ++ t) ≡ chain out next c n s ++ t
  unfolding whole
  whole_split n c s t e h =
      let m : length (s ++ t) / 16 ≡ n = omega (arith, length-append s t) in
      rw m (ap₂ (λ (x y : List ℕ). x ++ y) (chain-front n c s t (omega arith)) (drop_at s t (16 * n) e))

  pub whole-all : (n : ℕ) (c s : List ℕ) → length s ≡ 16 * n → whole out next c s ≡ chain out next c n s
  whole-all n c s e =
      ap (whole out next c) (sym (append-nil s))
      ∙ whole_split n c s [] e (omega arith)
      ∙ append-nil (chain out next c n s)

-- both functions take blocks to blocks
module _ (out next : List ℕ → List ℕ → List ℕ) (out-block : (c b : List ℕ) → Bytes c → Block b → Block (out c b))
    (next-bytes : (c b : List ℕ) → Bytes c → Block b → Bytes (next c b)) where
  pub chain-bytes : (n : ℕ) (c s : List ℕ) → Bytes c → Bytes s → 16 * n ≤ length s → Bytes (chain out next c n s)
  unfolding chain
  chain-bytes zero c s hc hs h = λ i. omega arith
  chain-bytes (suc n) c s hc hs h =
      let b : Block (part s 0 16) = part-block s hs (omega arith) in
      append-bytes (out c (part s 0 16)) (chain out next (next c (part s 0 16)) n (drop 16 s)) (out-block c (part s 0 16) hc b).byte
      (chain-bytes n (next c (part s 0 16)) (drop 16 s) (next-bytes c (part s 0 16) hc b) (drop-bytes 16 s hs) (omega (arith, length-drop 16 s)))

  pub length-chain : (n : ℕ) (c s : List ℕ) → Bytes c → Bytes s → 16 * n ≤ length s → length (chain out next c n s) ≡ 16 * n
  unfolding chain
  length-chain zero c s hc hs h = refl
  length-chain (suc n) c s hc hs h =
      let b : Block (part s 0 16) = part-block s hs (omega arith) in
      length-append (out c (part s 0 16)) (chain out next (next c (part s 0 16)) n (drop 16 s))
      ∙ ap₂ ◌+◌ (out-block c (part s 0 16) hc b).long
      (length-chain n (next c (part s 0 16)) (drop 16 s) (next-bytes c (part s 0 16) hc b) (drop-bytes 16 s hs) (omega (arith, length-drop 16 s)))
      ∙ omega arith

  pub length_whole : (c s : List ℕ) → Bytes c → Bytes s → length (whole out next c s) ≡ length s
  unfolding whole
  length_whole c s hc hs =
      length-append (chain out next c (length s / 16) s) (drop (16 * (length s / 16)) s)
      ∙ omega (arith, length-chain (length s / 16) c s hc hs (omega arith), length-drop (16 * (length s / 16)) s)

  pub whole-bytes : (c s : List ℕ) → Bytes c → Bytes s → Bytes (whole out next c s)
  unfolding whole
  whole-bytes c s hc hs =
      append-bytes (chain out next c (length s / 16) s) (drop (16 * (length s / 16)) s) (chain-bytes (length s / 16) c s hc hs (omega arith))
      (drop-bytes (16 * (length s / 16)) s hs)

  -- a chain whose blocks make those that they were made of, and hand on the same, undoes this one
  module _ (out' next' : List ℕ → List ℕ → List ℕ) (undo : (c b : List ℕ) → Bytes c → Block b → out' c (out c b) ≡ b)
      (same : (c b : List ℕ) → Bytes c → Block b → next' c (out c b) ≡ next c b) where
    pub chain-undone : (n : ℕ) (c s : List ℕ) → Bytes c → Bytes s → length s ≡ 16 * n → chain out' next' c n (chain out next c n s) ≡ s
    unfolding chain
    chain-undone zero c s hc hs e = take_all 0 s (omega arith)
    chain-undone (suc n) c s hc hs e =
        let p : List ℕ = part s 0 16 in
        let b : Block p = part-block s hs (omega arith) in
        let r : List ℕ = chain out next (next c p) n (drop 16 s) in
        ap₂ (λ (x y : List ℕ). out' c x ++ chain out' next' (next' c x) n y) (first_of (out c p) r (out-block c p hc b).long)
        (drop_at (out c p) r 16 (out-block c p hc b).long)
        ∙ ap₂ (λ (x y : List ℕ). x ++ chain out' next' y n r) (undo c p hc b) (same c p hc b)
        ∙ ap (λ (x : List ℕ). p ++ x) (chain-undone n (next c p) (drop 16 s) (next-bytes c p hc b) (drop-bytes 16 s hs) (omega (arith, length-drop 16 s)))
        ∙ first-behind s

    pub whole-undone : (c s : List ℕ) → Bytes c → Bytes s → whole out' next' c (whole out next c s) ≡ s
    whole-undone c s hc hs =
        let n : ℕ = length s / 16 in
        let a : List ℕ = take (16 * n) s in
        let b : List ℕ = drop (16 * n) s in
        let la : length a ≡ 16 * n = length-take-le (16 * n) s (omega arith) in
        let lb : length b < 16 = omega (arith, length-drop (16 * n) s) in
        let ha : Bytes a = take-bytes (16 * n) s hs in
        ap (λ (x : List ℕ). whole out' next' c (whole out next c x)) (sym (take-append-drop (16 * n) s))
        ∙ ap (whole out' next' c) (whole_split out next n c a b la lb)
        ∙ whole_split out' next' n c (chain out next c n a) b (length-chain n c a hc ha (omega arith)) lb
        ∙ ap (λ (x : List ℕ). x ++ b) (chain-undone n c a hc ha la)
        ∙ take-append-drop (16 * n) s
