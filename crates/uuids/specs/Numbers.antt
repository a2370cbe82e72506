-- The numbers of a conversion, told by the tests that led there, and what 0 has shown. Assumes nothing.
use Rattle.std.specs.Prelude.{◌≡◌, true, false, cond, not, List, ℕ, ◌≤◌, length}
use Rattle.std.proofs.Common.{sym}
use borrow.Author.Tests.{not-false}
use Rattle.conversion.specs.Conversion.{misfit}
use Rattle.conversion.specs.Answers.{fits, undeclined, first-refused}
use Rattle.refusals.specs.Numbers.{number_of}
use Rattle.refusals.specs.declared.Refusal.{Refusal}
use Rattle.uuids.specs.Uuid.{formed, text_number, record_number}

module _ (t : List ℕ) (room : ℕ) where
  pub text-misfit : (r : Refusal) → number_of r ≡ cond (misfit (length t) 36 room 16) 23 0 → text_number t room ≡ number_of r
  unfolding text_number
  text-misfit r e = first-refused (misfit (length t) 36 room 16) 23 _ r e

  pub text-fits : ◌≡◌ {A = ℕ} 0 (cond (misfit (length t) 36 room 16) 23 0) → misfit (length t) 36 room 16 ≡ false
  text-fits e = (undeclined (misfit (length t) 36 room 16) 22 0 (sym e)).0

  pub text-bad : misfit (length t) 36 room 16 ≡ false → formed t ≡ false → text_number t room ≡ 25
  unfolding text_number
  text-bad e f = simp (e, f)

  pub text-taken : misfit (length t) 36 room 16 ≡ false → formed t ≡ true → text_number t room ≡ 0
  unfolding text_number
  text-taken e f = simp (e, f)

  pub text-shown : text_number t room ≡ 0 → (length t ≡ 36) × (16 ≤ room) × (formed t ≡ true)
  unfolding text_number
  text-shown e =
      let p = undeclined (misfit (length t) 36 room 16) 22 (cond (not (formed t)) 25 0) e in
      let q = fits (length t) 36 room 16 p.0 in
      (q.0, q.1, not-false (formed t) (undeclined (not (formed t)) 24 0 p.1).0)

module _ (r : List ℕ) (room : ℕ) where
  pub record-misfit : (f : Refusal) → number_of f ≡ cond (misfit (length r) 16 room 36) 23 0 → record_number r room ≡ number_of f
  unfolding record_number
  record-misfit f e = first-refused (misfit (length r) 16 room 36) 23 0 f e

  pub record-fits : misfit (length r) 16 room 36 ≡ false → record_number r room ≡ 0
  unfolding record_number
  record-fits e = simp e

  pub record-taken : ◌≡◌ {A = ℕ} 0 (cond (misfit (length r) 16 room 36) 23 0) → record_number r room ≡ 0
  unfolding record_number
  record-taken e = sym e

  pub record-shown : record_number r room ≡ 0 → (length r ≡ 16) × (36 ≤ room)
  unfolding record_number
  record-shown e = fits (length r) 16 room 36 (undeclined (misfit (length r) 16 room 36) 22 0 e).0
