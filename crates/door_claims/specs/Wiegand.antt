-- Document 02, T-05: a Wiegand record and its text. Each statement speaks of the numbers and results that the contracts cite. Assumes nothing.
use Rattle.std.specs.Prelude.{◌≡◌, refl, Bool, true, false, cond, ◌&&◌, ◌||◌, not, List, [], ◌∷◌, ◌++◌, map, ℕ, suc, ◌+◌, ◌≤◌, eqb, length, get_or, take, drop, replicate}
use Rattle.std.proofs.Common.{sym, ap, ap₂, ◌∙◌, arith, eqb-true, eq-eqb, length-drop, take-append-drop, length-take-le, get_or-drop}
use Rattle.std.proofs.lemmas.Bool.{eqb-false, not-false}
use Rattle.octets.specs.Same.{split-and}
use Rattle.std.proofs.lemmas.List.{length-map}
use Rattle.octets.specs.Bytes.{Bytes}
use Rattle.octets.specs.Lists.{cons}
use Rattle.conversion.specs.Conversion.{misfit, each}
use Rattle.conversion.specs.Answers.{or-false, fits, no-misfit, undeclined}
use Rattle.wiegand.specs.Wiegand.{is_bit, bit_of, character, text_bits, ones, parity_right, with_zeros, record_of, text_of, text_number, record_number}
use Rattle.wiegand.specs.Laws.{zeros-small, take-small}
use Rattle.binary.specs.Laws.{length-bits, bits_small}
use Rattle.door_claims.specs.Bits.{bytes_bits, bits-bytes}
use Rattle.binary.specs.Binary.{bytes_of, bits_of}

-- a bit's character is one of the two, and has the bit
bit-by : (x : ℕ) (t : Bool) → eqb x 0 ≡ t → x ≤ 1 → (is_bit (character x) ≡ true) × (bit_of (character x) ≡ x)
bit-by x true e h = let z = eqb-true x 0 e in (rw z refl, rw z refl)
bit-by x false e h = let z : x ≡ 1 = omega (arith, eqb-false x 0 e) in (rw z refl, rw z refl)

characters-good : (s : List ℕ) → ((i : ℕ) → get_or s i 0 ≤ 1) → (each is_bit (map character s) ≡ true) × (text_bits (map character s) ≡ s)
characters-good [] h = (refl, refl)
characters-good (x ∷ s) h =
    let b = bit-by x (eqb x 0) refl (h 0) in
    let r = characters-good s (λ i. h (suc i)) in
    (ap₂ (λ (p q : Bool). p && q) b.0 r.0, cons b.1 r.1)

-- and one of the two characters is that of its bit
character-by : (c : ℕ) (t u : Bool) → eqb c (character 0) ≡ t → eqb c (character 1) ≡ u → (t || u) ≡ true → character (cond u 1 0) ≡ c
character-by c t true e f h = sym (eqb-true c (character 1) f)
character-by c true false e f h = sym (eqb-true c (character 0) e)
character-by c false false e f h = absurd (let z : ◌≡◌ {A = ℕ} 0 1 = cc in omega arith)

characters-back : (t : List ℕ) → each is_bit t ≡ true → map character (text_bits t) ≡ t
characters-back [] h = refl
characters-back (c ∷ t) h =
    let p = split-and (is_bit c) (each is_bit t) h in
    cons (character-by c (eqb c (character 0)) (eqb c (character 1)) refl refl p.0) (characters-back t p.1)

-- bits without a one are zeros
none-by : (x n : ℕ) (t : Bool) → eqb x 1 ≡ t → x ≤ 1 → cond t 1 0 + n ≡ 0 → (x ≡ 0) × (n ≡ 0)
none-by x n true e h z = (omega arith, omega arith)
none-by x n false e h z = (omega (arith, eqb-false x 1 e), omega arith)

no_ones : (s : List ℕ) → ((i : ℕ) → get_or s i 0 ≤ 1) → ones s ≡ 0 → s ≡ replicate (length s) 0
unfolding ones
no_ones [] h e = refl
no_ones (x ∷ s) h e = let p = none-by x (ones s) (eqb x 1) refl (h 0) e in cons p.0 (no_ones s (λ i. h (suc i)) p.1)

-- so a record with no bit above the 26 is its own 26 bits behind six zeros
zeros-above : (b : List ℕ) → length b ≡ 32 → ((i : ℕ) → get_or b i 0 ≤ 1) → ones (take 6 b) ≡ 0 → with_zeros (drop 6 b) ≡ b
zeros-above b e h z =
    let l : length (take 6 b) ≡ 6 = length-take-le 6 b (omega arith) in
    let k : take 6 b ≡ replicate 6 0 = no_ones (take 6 b) (λ i. take-small 6 b h i) z ∙ ap (λ (n : ℕ). replicate n 0) l in
    ap (λ (s : List ℕ). s ++ drop 6 b) (sym k) ∙ take-append-drop 6 b

none_above : (w : List ℕ) → ones (take 6 (with_zeros w)) ≡ 0
unfolding ones
none_above w = refl

-- what is known of a record that is not refused
pub record Lawful (r : List ℕ) : Type 0 where
  pub long : length r ≡ 4
  pub above : ones (take 6 (bits_of r)) ≡ 0
  pub parity : parity_right (drop 6 (bits_of r)) ≡ true

lawful : (r : List ℕ) (room : ℕ) → record_number r room ≡ 0 → Lawful r
unfolding record_number
lawful r room e =
    let a = not (eqb (ones (take 6 (bits_of r))) 0) in
    let b = not (parity_right (drop 6 (bits_of r))) in
    let p = undeclined (misfit (length r) 4 room 26) 22 (cond (a || b) 24 0) e in
    let q = or-false a b (undeclined (a || b) 23 0 p.1).0 in
    record {
      long = (fits (length r) 4 room 26 p.0).0;
      above = eqb-true (ones (take 6 (bits_of r))) 0 (not-false _ q.0);
      parity = not-false _ q.1;
    }

is_lawful : (r : List ℕ) (room : ℕ) → 26 ≤ room → Lawful r → record_number r room ≡ 0
unfolding record_number
is_lawful r room h q = simp (no-misfit (length r) 4 room 26 q.long h, eq-eqb (ones (take 6 (bits_of r))) 0 q.above, q.parity)

-- and of a text
pub record Good (t : List ℕ) : Type 0 where
  pub long : length t ≡ 26
  pub characters : each is_bit t ≡ true
  pub parity : parity_right (text_bits t) ≡ true

good : (t : List ℕ) (room : ℕ) → text_number t room ≡ 0 → Good t
unfolding text_number
good t room e =
    let a = not (each is_bit t) in
    let b = not (parity_right (text_bits t)) in
    let p = undeclined (misfit (length t) 26 room 4) 22 (cond a 25 (cond b 24 0)) e in
    let q = undeclined a 24 (cond b 24 0) p.1 in
    record { long = (fits (length t) 26 room 4 p.0).0; characters = not-false _ q.0; parity = not-false _ (undeclined b 23 0 q.1).0 }

is-good : (t : List ℕ) (room : ℕ) → 4 ≤ room → Good t → text_number t room ≡ 0
unfolding text_number
is-good t room h q = simp (no-misfit (length t) 26 room 4 q.long h, q.characters, q.parity)

-- "A record not refused, turned to its door form and back, is the same record"
pub record-back : (r : List ℕ) (room room' : ℕ) → Bytes r → record_number r room ≡ 0 → 4 ≤ room' → (text_number (text_of r) room' ≡ 0) × (record_of (text_of r) ≡ r)
unfolding record_of text_of
record-back r room room' h e k =
    let q = lawful r room e in
    let d : List ℕ = bits_of r in
    let l : length d ≡ 32 = omega (arith, length-bits r, q.long) in
    let s : (i : ℕ) → get_or (drop 6 d) i 0 ≤ 1 = λ i. rw (get_or-drop 6 d i 0) (bits_small r (6 + i)) in
    let c = characters-good (drop 6 d) s in (
      is-good (text_of r) room' k (record { long = omega (arith, length-map (drop 6 d) character, length-drop 6 d); characters = c.0; parity = ap parity_right c.1 ∙ q.parity }),
      ap (λ (w : List ℕ). bytes_of 4 (with_zeros w)) c.1 ∙ ap (bytes_of 4) (zeros-above d l (bits_small r) q.above) ∙ bytes_bits r q.long h,
    )

-- "a text likewise": what is not refused, turned to its record and back, is the same text
pub text-back : (t : List ℕ) (room room' : ℕ) → text_number t room ≡ 0 → 26 ≤ room' → (record_number (record_of t) room' ≡ 0) × (text_of (record_of t) ≡ t)
unfolding record_of text_of
text-back t room room' e k =
    let q = good t room e in
    let w : List ℕ = with_zeros (text_bits t) in
    let d : bits_of (record_of t) ≡ w = bits-bytes w (omega (arith, length-map t bit_of, q.long)) (zeros-small 6 t) in (
      is_lawful (record_of t) room' k (record { long = refl; above = ap (λ (s : List ℕ). ones (take 6 s)) d ∙ none_above (text_bits t); parity = ap (λ (s : List ℕ). parity_right (drop 6 s)) d ∙ q.parity }),
      ap (λ (s : List ℕ). map character (drop 6 s)) d ∙ characters-back t q.characters,
    )
