-- Lists by their places: a list of known length is a table, and so is f at each of its elements. Assumes nothing.
use Rattle.std.specs.Prelude.{◌≡◌, refl, List, map, ℕ, length, get_or}
use Rattle.std.proofs.Common.{sym, arith}
use Rattle.std.proofs.Math.ListN.{get_or-map}
use Rattle.std.proofs.lemmas.List.{length-map}
use Rattle.octets.specs.Lists.{table, tabled}

-- a list of n elements, written out by their places
pub by-places : (n : ℕ) (s : List ℕ) → length s ≡ n → table (λ i. get_or s i 0) n 0 ≡ s
by-places n s e = sym (tabled (λ i. get_or s i 0) n 0 s 0 (omega arith) (λ i h. refl))

-- f at each element
pub map-places : (f : ℕ → ℕ) (n : ℕ) (s : List ℕ) → length s ≡ n → map f s ≡ table (λ i. f (get_or s i 0)) n 0
map-places f n s e = tabled (λ i. f (get_or s i 0)) n 0 (map f s) (f 0) (omega (arith, length-map s f)) (λ i h. get_or-map f s i 0)
