-- Each of the two byte tables undoes the other, computed once over all bytes. Assumes nothing.
use Rattle.std.specs.Prelude.{◌≡◌, Bool, ℕ, ◌<◌, T, eqb, ltb}
use Rattle.std.proofs.Common.{◌∙◌, eqb→eq, ltb→lt}
use Rattle.std.proofs.Math.Path.{ap}
use Rattle.octets.specs.Tests.{both, both_left, both_right, below, below_at}
use Rattle.field.specs.Field.{inverse}
use Rattle.field_laws.specs.Inverse.{inverse-inverse, inverse-lt}
use Rattle.sbox.specs.SubBytes.{affine, sbox}
use Rattle.sbox.specs.InvSubBytes.{inv_affine, inv_sbox}

-- the affine map and its inverse undo one another, and both give bytes
affine-at : ℕ → Bool
affine-at k = both (both (eqb (inv_affine (affine k)) k) (ltb (affine k) 256)) (both (eqb (affine (inv_affine k)) k) (ltb (inv_affine k) 256))

affines : T (below affine-at 256)
unfolding affine-at
affines = tt

module _ (k : ℕ) (h : k < 256) where
  there : T (both (eqb (inv_affine (affine k)) k) (ltb (affine k) 256))
  unfolding affine-at
  there = both_left (both (eqb (inv_affine (affine k)) k) (ltb (affine k) 256)) _ (below_at affine-at 256 affines k h)

  back : T (both (eqb (affine (inv_affine k)) k) (ltb (inv_affine k) 256))
  unfolding affine-at
  back = both_right (both (eqb (inv_affine (affine k)) k) (ltb (affine k) 256)) _ (below_at affine-at 256 affines k h)

  inv-of-affine : inv_affine (affine k) ≡ k
  inv-of-affine = eqb→eq (inv_affine (affine k)) k (both_left (eqb (inv_affine (affine k)) k) _ there)

  affine-lt : affine k < 256
  affine-lt = ltb→lt (affine k) 256 (both_right (eqb (inv_affine (affine k)) k) _ there)

  affine-of-inv : affine (inv_affine k) ≡ k
  affine-of-inv = eqb→eq (affine (inv_affine k)) k (both_left (eqb (affine (inv_affine k)) k) _ back)

  inv_affine-lt : inv_affine k < 256
  inv_affine-lt = ltb→lt (inv_affine k) 256 (both_right (eqb (affine (inv_affine k)) k) _ back)

-- SBOX and INVSBOX undo one another, and both give bytes
module _ (k : ℕ) (h : k < 256) where
  pub inv-of-sbox : inv_sbox (sbox k) ≡ k
  unfolding sbox inv_sbox
  inv-of-sbox = ap inverse (inv-of-affine (inverse k) (inverse-lt k h)) ∙ inverse-inverse k h

  pub sbox-of-inv : sbox (inv_sbox k) ≡ k
  unfolding sbox inv_sbox
  sbox-of-inv = ap affine (inverse-inverse (inv_affine k) (inv_affine-lt k h)) ∙ affine-of-inv k h

  pub sbox-lt : sbox k < 256
  unfolding sbox
  sbox-lt = affine-lt (inverse k) (inverse-lt k h)

  pub inv_sbox-lt : inv_sbox k < 256
  unfolding inv_sbox
  inv_sbox-lt = inverse-lt (inv_affine k) (inv_affine-lt k h)
