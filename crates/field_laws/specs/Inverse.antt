-- `inverse` is the inverse in the field: b • inverse b = 1 for each b but 0, and inverse 0 = 0. It undoes itself, and gives bytes.
-- Assumes nothing.
use Rattle.std.specs.Prelude.{◌≡◌, refl, Bool, ℕ, suc, ◌<◌, T, eqb, ltb}
use Rattle.std.proofs.Common.{eqb→eq, ltb→lt}
use Rattle.octets.specs.Tests.{both, both_left, both_right, below_at}
use Rattle.field.specs.Field.{mul, inverse}

undoes : ℕ → Bool
undoes k = eqb (mul (suc k) (inverse (suc k))) 1

pub inverse-right : (k : ℕ) → k < 255 → mul (suc k) (inverse (suc k)) ≡ 1
unfolding undoes
inverse-right k h = eqb→eq (mul (suc k) (inverse (suc k))) 1 (below_at undoes 255 tt k h)

pub inverse-zero : inverse 0 ≡ 0
inverse-zero = refl

twice : ℕ → Bool
twice k = both (eqb (inverse (inverse k)) k) (ltb (inverse k) 256)

twice-at : (k : ℕ) → k < 256 → T (twice k)
unfolding twice
twice-at k h = below_at twice 256 tt k h

pub inverse-inverse : (k : ℕ) → k < 256 → inverse (inverse k) ≡ k
unfolding twice
inverse-inverse k h = eqb→eq (inverse (inverse k)) k (both_left (eqb (inverse (inverse k)) k) _ (twice-at k h))

pub inverse-lt : (k : ℕ) → k < 256 → inverse k < 256
unfolding twice
inverse-lt k h = ltb→lt (inverse k) 256 (both_right (eqb (inverse (inverse k)) k) _ (twice-at k h))
