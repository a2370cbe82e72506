-- What `door` answers, told by the tests that lead there. Assumes nothing.
use Rattle.std.specs.Prelude.{◌≡◌, refl, Bool, true, false, List, ◌++◌, ℕ, ◌<◌, ◌≤◌, length}
use Rattle.std.proofs.Math.Path.{sym}
use Rattle.std.proofs.Common.{ap, ◌∙◌, subst, append-nil}
use borrow.Author.Tests.{eq-eqb, ne_eqb, lt-ltb, le-ltb}
use Rattle.conversion.specs.Conversion.{each, converted, output_after}
use Rattle.conversion.specs.Answers.{number_is, over-all}
use Rattle.conversion.specs.declared.Converted.{Converted}
use Rattle.binary.specs.Binary.{binary, bits_of}
use Rattle.binary.specs.Places.{by-places}
use Rattle.wiegand.specs.Wiegand.{text_of}
use Rattle.hexadecimal.specs.Hexadecimal.{is_digit, octets_of}
use Rattle.printing.specs.Printing.{ascii, shown}
use Rattle.door_answers.specs.Answer.{fault, wrong_length, result, wiegand_text, uuid_text, of_record, of_uuid_record, in_hexadecimal, verdict, heading}

-- the words of a number
pub fault-25 : (k : ℕ) (b : Bool) → k ≡ 25 → fault k b ≡ ascii ": 25, a bad character"
unfolding fault
fault-25 k b e = simp (eq-eqb k 25 e)

pub fault-24 : (k : ℕ) → (k ≡ 25 → ⊥) → k ≡ 24 → fault k false ≡ ascii ": 24, wrong parity"
unfolding fault
fault-24 k n e = simp (ne_eqb k 25 n, eq-eqb k 24 e)

pub fault-record : (k : ℕ) → (k ≡ 25 → ⊥) → k ≡ 24 → fault k true ≡ ascii ": 24, wrong parity, or a bit set above the 26"
unfolding fault
fault-record k n e = simp (ne_eqb k 25 n, eq-eqb k 24 e)

pub fault-23 : (k : ℕ) (b : Bool) → (k ≡ 25 → ⊥) → (k ≡ 24 → ⊥) → fault k b ≡ ascii ": 23, wrong length"
unfolding fault
fault-23 k b n m = simp (ne_eqb k 25 n, ne_eqb k 24 m)

-- a conversion's number is the one that its definition says
pub number-told : (k : ℕ) (s : List ℕ) {r : Converted} → r ≡ converted k s → r.number ≡ k
number-told k s e = ap (λ (r : Converted). r.number) e ∙ number_is k s

-- its answer where the number is not 0, and where it is
pub result-fault : (k : ℕ) (m : List ℕ) (b : Bool) {n : ℕ} → n ≡ k → (n ≡ 0 → ⊥) → fault n b ≡ result k m b
unfolding result
result-fault k m b {n} e h = ap (λ (x : ℕ). fault x b) e ∙ sym (rw (ne_eqb k 0 (λ z. h (e ∙ z))))

pub result-made : (k : ℕ) (m : List ℕ) (b : Bool) {n : ℕ} → n ≡ k → n ≡ 0 → m ≡ result k m b
unfolding result
result-made k m b e z = sym (rw (eq-eqb k 0 (sym e ∙ z)))

-- and what it wrote there
pub output-made : (k : ℕ) (s d : List ℕ) {n : ℕ} {d' : List ℕ} → n ≡ k → n ≡ 0 → length d ≤ length s → d' ≡ output_after k s d → d' ≡ s
unfolding output_after
output-made k s d e z h q = q ∙ rw (eq-eqb k 0 (sym e ∙ z)) (over-all d s h)

-- a record in hexadecimal
pub hexadecimal-fault : (t : List ℕ) (f : List ℕ → List ℕ) → each is_digit t ≡ false → fault 25 true ≡ in_hexadecimal t f
unfolding in_hexadecimal
hexadecimal-fault t f e = sym (rw e)

pub hexadecimal-read : (t : List ℕ) (f : List ℕ → List ℕ) → each is_digit t ≡ true → f (octets_of t) ≡ in_hexadecimal t f
unfolding in_hexadecimal
hexadecimal-read t f e = sym (rw e)

-- the five lengths
module _ (s : List ℕ) (n : ℕ) where
  pub verdict-26 : n ≡ 26 → wiegand_text s ≡ verdict s n
  unfolding verdict
  verdict-26 e = sym (simp (eq-eqb n 26 e))

  pub verdict-36 : (n ≡ 26 → ⊥) → n ≡ 36 → uuid_text s ≡ verdict s n
  unfolding verdict
  verdict-36 a e = sym (simp (ne_eqb n 26 a, eq-eqb n 36 e))

  pub verdict-8 : (n ≡ 26 → ⊥) → (n ≡ 36 → ⊥) → n ≡ 8 → in_hexadecimal s of_record ≡ verdict s n
  unfolding verdict
  verdict-8 a b e = sym (simp (ne_eqb n 26 a, ne_eqb n 36 b, eq-eqb n 8 e))

  pub verdict-32 : (n ≡ 26 → ⊥) → (n ≡ 36 → ⊥) → (n ≡ 8 → ⊥) → n ≡ 32 → in_hexadecimal s of_uuid_record ≡ verdict s n
  unfolding verdict
  verdict-32 a b c e = sym (simp (ne_eqb n 26 a, ne_eqb n 36 b, ne_eqb n 8 c, eq-eqb n 32 e))

  pub verdict-none : (n ≡ 26 → ⊥) → (n ≡ 36 → ⊥) → (n ≡ 8 → ⊥) → (n ≡ 32 → ⊥) → wrong_length n ≡ verdict s n
  unfolding verdict
  verdict-none a b c d = sym (simp (ne_eqb n 26 a, ne_eqb n 36 b, ne_eqb n 8 c, ne_eqb n 32 d))

  -- the line as it is shown
  pub heading-cut : length s < n → shown s ++ ascii ".." ≡ heading s n
  unfolding heading
  heading-cut h = sym (rw (lt-ltb (length s) n h))

  pub heading-whole : n ≤ length s → shown s ≡ heading s n
  unfolding heading
  heading-whole h = sym (rw (le-ltb (length s) n h) (append-nil (shown s)))

-- a Wiegand number's text has 26 characters
pub length-letters : (r : List ℕ) → length r ≡ 4 → length (text_of r) ≡ 26
unfolding text_of bits_of binary
length-letters r e = subst (λ (s : List ℕ). length (text_of s) ≡ 26) (by-places 4 r e) refl
