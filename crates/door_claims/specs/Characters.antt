-- Laws of one character of a UUID: a digit's value and its small form, computed over ASCII. Assumes nothing.
use Rattle.std.specs.Prelude.{◌≡◌, refl, Bool, true, false, cond, ◌&&◌, ℕ, ◌<◌, T, eqb, ltb}
use Rattle.std.proofs.Common.{subst, arith, le-leb, ltb-true, ltb-false, eqb-true}
use Rattle.std.proofs.lemmas.Bool.{lt-leb}
use Rattle.octets.specs.Same.{split-and}
use Rattle.octets.specs.Tests.{below, below_at}
use Rattle.hexadecimal.specs.Hexadecimal.{is_digit, digit_value, digit}
use Rattle.hexadecimal.specs.Laws.{digit-cases}
use Rattle.uuids.specs.Uuid.{hyphen, small}

-- what a test of the characters says of each digit, and of the digit of each value
test-true : (t : Bool) → T t → t ≡ true
test-true true h = refl
test-true false h = absurd h

digit-test : ℕ → Bool
digit-test c = ltb (digit_value c) 16 && (eqb (digit (digit_value c)) (small c) && eqb (digit_value (small c)) (digit_value c))

pub digit-facts : (c : ℕ) → is_digit c ≡ true → (digit_value c < 16) × (digit (digit_value c) ≡ small c) × (digit_value (small c) ≡ digit_value c)
unfolding is_digit digit_value digit digit-test
digit-facts c e =
    let h : c < 0x67 = digit-cases c e (λ p. omega arith) (λ p. omega arith) (λ p. omega arith) in
    let t = test-true _ (subst (λ (d : Bool). T (cond d (digit-test c) true)) e (below_at (λ (k : ℕ). cond (is_digit k) (digit-test k) true) 0x67 tt c h)) in
    let p = split-and (ltb (digit_value c) 16) _ t in
    let q = split-and (eqb (digit (digit_value c)) (small c)) _ p.1 in
    (ltb-true (digit_value c) 16 p.0, eqb-true (digit (digit_value c)) (small c) q.0, eqb-true (digit_value (small c)) (digit_value c) q.1)

pub value-facts : (v : ℕ) → v < 16 → (is_digit (digit v) ≡ true) × (digit_value (digit v) ≡ v)
unfolding is_digit digit_value digit
value-facts v h =
    let p = split-and (is_digit (digit v)) _ (test-true _ (below_at (λ (k : ℕ). is_digit (digit k) && eqb (digit_value (digit k)) k) 16 tt v h)) in
    (p.0, eqb-true (digit_value (digit v)) v p.1)

-- what a capital and its small letter have in common, every character has with its small form
agree : Bool → Bool → Bool
agree true true = true
agree true false = false
agree false true = false
agree false false = true

agree_same : (a b : Bool) → T (agree a b) → a ≡ b
unfolding agree
agree_same true true h = refl
agree_same true false h = absurd h
agree_same false true h = absurd h
agree_same false false h = refl

module _ (p : ℕ → Bool) (test : T (below (λ c. agree (p (small c)) (p c)) 0x5B)) (c : ℕ) where
  small_by : (t : Bool) → ltb c 0x5B ≡ t → p (small c) ≡ p c
  small_by true e = agree_same (p (small c)) (p c) (below_at (λ k. agree (p (small k)) (p k)) 0x5B test c (ltb-true c 0x5B e))
  small_by false e = let h = ltb-false c 0x5B e in simp (le-leb 0x41 c (omega arith), lt-leb c 0x5A (omega arith))

  small_same : p (small c) ≡ p c
  small_same = small_by (ltb c 0x5B) refl

pub small-digit : (c : ℕ) → is_digit (small c) ≡ is_digit c
unfolding is_digit agree
small-digit = small_same is_digit tt

pub small-hyphen : (c : ℕ) → eqb (small c) hyphen ≡ eqb c hyphen
unfolding agree
small-hyphen = small_same (λ c. eqb c hyphen) tt
