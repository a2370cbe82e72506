-- The first bytes of 32 as a key, and the first rows of fifteen as its round keys. Assumes nothing.
use Rattle.std.specs.Prelude.{◌≡◌, true, List, ℕ, ◌+◌, ◌/◌, ◌<◌, length, take}
use Rattle.std.proofs.Common.{ap, ◌∙◌, arith, length-take-le}
use Rattle.key_expansion.specs.KeyLength.{is_key_length, length_most}

module _ (n : ℕ) (e : is_key_length n ≡ true) where
  pub key-part : (b : List ℕ) → length b ≡ 32 → length (take n b) ≡ n
  key-part b l = length-take-le n b (omega (arith, l, length_most n e))

  pub key-good : (b : List ℕ) → length b ≡ 32 → is_key_length (length (take n b)) ≡ true
  key-good b l = ap is_key_length (key-part b l) ∙ e

  pub rows-part : (w : List (List ℕ)) → length w ≡ 15 → length (take (n / 4 + 7) w) ≡ n / 4 + 7
  rows-part w l = length-take-le (n / 4 + 7) w (omega (arith, l, length_most n e))

  pub rows-two : (w : List (List ℕ)) → length w ≡ 15 → 1 < length (take (n / 4 + 7) w)
  rows-two w l = omega (arith, rows-part w l)
