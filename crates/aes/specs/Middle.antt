-- The middle round keys: all but the first and the last, forwards and backwards. Assumes nothing.
use Rattle.std.specs.Prelude.{◌≡◌, List, [], ℕ, suc, ◌+◌, ◌-◌, ◌<◌, length, get_or, take, drop, reverse}
use Rattle.std.proofs.Common.{ap, ◌∙◌, arith}
use Rattle.std.proofs.lemmas.List.{get_or-reverse, get_or_read, length-reverse}
use Rattle.octets.specs.Lists.{part, length_part, get_or-part}

-- what `&w[1..last]` is
abbrev pub middle : List (List ℕ) → List (List ℕ)
middle w = take (length w - 1 - 1) (drop 1 w)

module _ (w : List (List ℕ)) (l : 1 < length w) where
  pub length_middle : length (middle w) ≡ length w - 1 - 1
  unfolding part
  length_middle = length_part w 1 (length w - 1 - 1) (omega arith)

  pub middle-at : (i : ℕ) (d : List ℕ) → i < length (middle w) → get_or (middle w) i d ≡ get_or w (suc i) d
  unfolding part
  middle-at i d h =
      let e : 1 + i ≡ suc i = omega arith in
      get_or-part w 1 (length w - 1 - 1) i d (omega (arith, length_middle)) ∙ ap (λ (n : ℕ). get_or w n d) e

  pub length_back : length (reverse (middle w)) ≡ length w - 1 - 1
  length_back = length-reverse (middle w) ∙ length_middle

  -- the i-th from the end
  pub back-at : (i : ℕ) (x : List ℕ) → i < length (reverse (middle w)) → x ≡ get_or (reverse (middle w)) i x → x ≡ get_or w (length w - 1 - 1 - i) []
  back-at i x h e =
      let k : i < length (middle w) = omega (arith, length_back, length_middle) in
      let n : suc (length (middle w) - 1 - i) ≡ length w - 1 - 1 - i = omega (arith, length_middle) in
      get_or_read (reverse (middle w)) i x h e []
      ∙ get_or-reverse (middle w) i [] k
      ∙ middle-at (length (middle w) - 1 - i) [] (omega arith)
      ∙ ap (λ (j : ℕ). get_or w j []) n
