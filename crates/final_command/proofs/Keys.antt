-- The first L of 32 bytes: the keys and RND1 of a card as its functions have them. Assumes nothing.
use mathlib.Core.Path.{◌≡◌, refl, sym, ap, ◌∙◌}
use mathlib.Core.Bool.{Bool, true, false, cond}
use mathlib.Core.List.{List}
use Prim.Native.Nat.{ℕ, ◌≤◌}
use native.Mathlib.Omega.{arith}
use lib.ListN.{length, take, replicate}
use lib.Seq.{length-take-le}
use Rattle.octets.specs.Lists.{part}
use Rattle.octets.specs.Writes.{zeros_of}
use Rattle.key_expansion.specs.KeyLength.{is_key_length}
use Rattle.diversification.specs.Diversification.{diversified_by}
use Rattle.diversification.specs.Laws.{length-diversified}
use Rattle.plaid_types.specs.Keys.{lawful, key_length_of, wide, held}
use Rattle.plaid_types.specs.KeyLaws.{lawful-one, lawful-most, held-wide}
use Rattle.plaid_types.specs.declared.Card.{Card}
use Rattle.final_command.specs.Final.{fa_key_of, rnd1_of, diversified}

module _ (n : ℕ) {l : ℕ} (k : List ℕ) (q : l ≡ lawful n) where
  pub first-held : take l k ≡ held (lawful n) k
  unfolding held part
  first-held = ap (λ (m : ℕ). take m k) q

  pub first-within : length k ≡ 32 → l ≤ length k
  first-within h = omega (arith, lawful-most n)

  pub length-first : length k ≡ 32 → length (take l k) ≡ l
  length-first h = length-take-le l k (first-within h)

  pub first-lawful : length k ≡ 32 → is_key_length (length (take l k)) ≡ true
  first-lawful h = ap is_key_length (length-first h ∙ q) ∙ lawful-one n

pub held-choice : (t : Bool) (l : ℕ) (x y : List ℕ) → held l (cond t x y) ≡ cond t (part x 0 l) (held l y)
unfolding held
held-choice true l x y = refl
held-choice false l x y = refl

zeros-choice : (t : Bool) (l : ℕ) (x : List ℕ) → l ≤ 32 → take l (cond t x (replicate 32 0)) ≡ cond t (held l x) (replicate l 0)
unfolding held part
zeros-choice true l x h = refl
zeros-choice false l x h = zeros_of 32 l h

module _ (c : Card) (fa : List ℕ) (l : ℕ) (q : l ≡ key_length_of c) (qfa : fa ≡ cond c.session.opened c.session.fa_key c.shill_key) where
  pub fa_key-is : take l fa ≡ fa_key_of c
  unfolding fa_key_of
  fa_key-is = first-held c.key_length fa q ∙ ap (held (key_length_of c)) qfa

  pub diversified-is : (key : List ℕ) → length fa ≡ 32 → key ≡ wide (diversified_by (fa_key_of c) c.div_data) → take l key ≡ diversified c
  unfolding diversified
  diversified-is key lf qk =
      let x : List ℕ = diversified_by (fa_key_of c) c.div_data in
      let a : is_key_length (length (fa_key_of c)) ≡ true = ap (λ (k : List ℕ). is_key_length (length k)) (sym fa_key-is) ∙ first-lawful c.key_length fa q lf in
      let b : length x ≡ key_length_of c = length-diversified (fa_key_of c) c.div_data a ∙ ap length (sym fa_key-is) ∙ length-first c.key_length fa q lf ∙ q in
      first-held c.key_length key q ∙ ap (held (key_length_of c)) qk ∙ held-wide (key_length_of c) x b

pub rnd1-is : (c : Card) (rnd : List ℕ) (l : ℕ) → l ≡ key_length_of c → rnd ≡ cond c.session.opened c.session.rnd1 (replicate 32 0) → take l rnd ≡ rnd1_of c
unfolding rnd1_of
rnd1-is c rnd l q qr = (λ i. take (q i) (qr i)) ∙ zeros-choice c.session.opened (key_length_of c) c.session.rnd1 (lawful-most c.key_length)
