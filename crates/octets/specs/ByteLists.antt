-- Lists of bytes: those put together of bytes, and parts of them, are of bytes. Assumes nothing.
use Rattle.std.specs.Prelude.{List, [], ◌∷◌, ◌++◌, ℕ, zero, suc, ◌+◌, ◌<◌, take, drop, replicate}
use Rattle.std.proofs.Common.{arith, get_or-drop}
use Rattle.octets.specs.Bytes.{Bytes}
use Rattle.octets.specs.Lists.{part}

pub cons-bytes : (x : ℕ) (s : List ℕ) → x < 256 → Bytes s → Bytes (x ∷ s)
cons-bytes x s h hs zero = h
cons-bytes x s h hs (suc i) = hs i

pub append-bytes : (a b : List ℕ) → Bytes a → Bytes b → Bytes (a ++ b)
append-bytes [] b ha hb i = hb i
append-bytes (x ∷ a) b ha hb zero = ha 0
append-bytes (x ∷ a) b ha hb (suc i) = append-bytes a b (λ j. ha (suc j)) hb i

pub zeros-bytes : (n : ℕ) → Bytes (replicate n 0)
zeros-bytes zero i = omega arith
zeros-bytes (suc n) zero = omega arith
zeros-bytes (suc n) (suc i) = zeros-bytes n i

pub take-bytes : (n : ℕ) (s : List ℕ) → Bytes s → Bytes (take n s)
take-bytes zero s b i = omega arith
take-bytes (suc n) [] b i = omega arith
take-bytes (suc n) (x ∷ s) b zero = b 0
take-bytes (suc n) (x ∷ s) b (suc i) = take-bytes n s (λ j. b (suc j)) i

pub drop-bytes : (n : ℕ) (s : List ℕ) → Bytes s → Bytes (drop n s)
drop-bytes n s b i = rw (get_or-drop n s i 0) (b (n + i))

pub part_bytes : (s : List ℕ) (p n : ℕ) → Bytes s → Bytes (part s p n)
unfolding part
part_bytes s p n b = take-bytes n (drop p s) (drop-bytes p s b)
