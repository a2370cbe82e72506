-- What the two conversions give, told by the tests that led there. Assumes nothing.
use mathlib.Core.Path.{◌≡◌, sym, ap, ap₂, ◌∙◌}
use mathlib.Core.Bool.{Bool, true, false, cond, not, ◌&&◌}
use mathlib.Core.List.{List, map}
use Prim.Native.Nat.{ℕ, ◌%◌, ◌≤◌}
use borrow.Author.Tests.{eq-eqb, ne_eqb}
use lib.Dec.{eqb}
use lib.ListN.{length, take, drop}
use Rattle.octets.specs.Lists.{part}
use Rattle.refusals.specs.Numbers.{number_of}
use Rattle.refusals.specs.declared.Refusal.{Refusal}
use Rattle.conversion.specs.Conversion.{misfit, each}
use Rattle.conversion.specs.Answers.{first-refused, undeclined, fits}
use Rattle.binary.specs.Binary.{bytes_of, bits_of}
use Rattle.wiegand.specs.Wiegand.{ones, parity_right, is_bit, text_bits, with_zeros, character, record_of, text_of, text_number, record_number}
use Rattle.wiegand.specs.Laws.{even-places, odd-places}

-- both counts, as the code makes them
pub parity-by : (b : List ℕ) {f l : List ℕ} {m n : ℕ} {r : Bool} → length b ≡ 32 → f ≡ part b 6 13 → l ≡ part b 19 13 → m ≡ ones f → n ≡ ones l →
    r ≡ (eqb (m % 2) 0 && eqb (n % 2) 1) → r ≡ parity_right (drop 6 b)
parity-by b e p q u v w =
    w ∙ sym (ap₂ (λ (x y : Bool). x && y)
    (even-places b e ∙ ap (λ (k : ℕ). eqb (k % 2) 0) (sym (u ∙ ap ones p)))
    (odd-places b e ∙ ap (λ (k : ℕ). eqb (k % 2) 1) (sym (v ∙ ap ones q))))

-- a text: wrong length, the number that its tests give, or its record
module _ (t : List ℕ) (room : ℕ) where
  pub text-misfit : (r : Refusal) → number_of r ≡ cond (misfit (length t) 26 room 4) 23 0 → text_number t room ≡ number_of r
  unfolding text_number
  text-misfit r e = first-refused (misfit (length t) 26 room 4) 23 _ r e

  module _ (fit : ◌≡◌ {A = ℕ} 0 (cond (misfit (length t) 26 room 4) 23 0)) where
    text-fits : misfit (length t) 26 room 4 ≡ false
    text-fits = (undeclined (misfit (length t) 26 room 4) 22 0 (sym fit)).0

    pub text-long : length t ≡ 26
    text-long = (fits (length t) 26 room 4 text-fits).0

    module _ {g p : Bool} {b : List ℕ} {n : ℕ} (good : g ≡ each is_bit t) (bits : b ≡ with_zeros (text_bits t)) (right : p ≡ parity_right (drop 6 b)) (found : n ≡ cond (not g) 25 (cond (not p) 24 0)) where
      pub number-found : text_number t room ≡ n
      unfolding text_number
      number-found = simp (text-fits, found, good, right ∙ ap (λ (s : List ℕ). parity_right (drop 6 s)) bits)

      pub text-made : {s : List ℕ} → n ≡ 0 → s ≡ bytes_of 4 b → (text_number t room ≡ 0) × (s ≡ record_of t)
      unfolding record_of
      text-made h e = (number-found ∙ h, e ∙ ap (bytes_of 4) bits)

  pub text-room : text_number t room ≡ 0 → 4 ≤ room
  unfolding text_number
  text-room e = (fits (length t) 26 room 4 (undeclined (misfit (length t) 26 room 4) 22 _ e).0).1

-- a record: wrong length, a bit above the 26, wrong parity, or its text
module _ (r : List ℕ) (room : ℕ) where
  pub record-misfit : (f : Refusal) → number_of f ≡ cond (misfit (length r) 4 room 26) 23 0 → record_number r room ≡ number_of f
  unfolding record_number
  record-misfit f e = first-refused (misfit (length r) 4 room 26) 23 _ f e

  module _ (fit : ◌≡◌ {A = ℕ} 0 (cond (misfit (length r) 4 room 26) 23 0)) where
    record-fits : misfit (length r) 4 room 26 ≡ false
    record-fits = (undeclined (misfit (length r) 4 room 26) 22 0 (sym fit)).0

    pub record-long : length r ≡ 4
    record-long = (fits (length r) 4 room 26 record-fits).0

    module _ {b : List ℕ} (bits : b ≡ bits_of r) {n : ℕ} (above : n ≡ ones (take 6 b)) where
      above-is : n ≡ ones (take 6 (bits_of r))
      above-is = above ∙ ap (λ (s : List ℕ). ones (take 6 s)) bits

      pub record-above : (n ≡ 0 → ⊥) → record_number r room ≡ 24
      unfolding record_number
      record-above h = simp (record-fits, sym above-is, ne_eqb n 0 h)

      module _ (none : n ≡ 0) {p : Bool} (right : p ≡ parity_right (drop 6 b)) where
        record-parity : p ≡ parity_right (drop 6 (bits_of r))
        record-parity = right ∙ ap (λ (s : List ℕ). parity_right (drop 6 s)) bits

        pub record-wrong : p ≡ false → record_number r room ≡ 24
        unfolding record_number
        record-wrong h = simp (record-fits, sym above-is, eq-eqb n 0 none, sym record-parity ∙ h)

        pub record-made : {s : List ℕ} → p ≡ true → s ≡ map character (drop 6 b) → (record_number r room ≡ 0) × (s ≡ text_of r)
        unfolding record_number text_of
        record-made h e = (simp (record-fits, sym above-is, eq-eqb n 0 none, sym record-parity ∙ h), e ∙ ap (λ (x : List ℕ). map character (drop 6 x)) bits)

  pub record-room : record_number r room ≡ 0 → 26 ≤ room
  unfolding record_number
  record-room e = (fits (length r) 4 room 26 (undeclined (misfit (length r) 4 room 26) 22 _ e).0).1
