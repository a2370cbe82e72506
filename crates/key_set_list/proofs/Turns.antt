-- An array's `map` gives the list of what its closure says of each element. Assumes nothing.
use Rattle.std.proofs.Common.{◌≡◌, sym, ap, ap₂, ◌∙◌, ℕ, zero, suc, ◌+◌, List, ◌∷◌, map, length, drop, drop-cons, drop_of_length-le, add-one, arith}
use Rattle.std.specs.Array.{MapsFrom, IsMapOf}
use denote.Param.Members.{Mut}

module _ {F A B : Type 0} (g : Mut F (A × Unit {0}) B) (h : A → B) (xs : List A) (ys : List B) where
  -- each of the calls gives what h says
  abbrev pub Says : (f : F) (i n : ℕ) → MapsFrom g f xs ys i n → Type 0
  Says f i zero m = Unit {0}
  Says f i (suc n) m = (m.2 ≡ h m.1) × Says m.0 (i + 1) n m.6

  from : (f : F) (i n : ℕ) (m : MapsFrom g f xs ys i n) → length xs ≡ i + n → length ys ≡ i + n → Says f i n m → drop i ys ≡ map h (drop i xs)
  from f i zero m e z w = drop_of_length-le ys {i = i} (omega arith) ∙ sym (ap (map h) (drop_of_length-le xs {i = i} (omega arith)))
  from f i (suc n) m e z w =
      drop-cons ys i m.2 (omega arith)
      ∙ ap₂ (λ (y : B) (l : List B). y ∷ l) (m.4.0 ∙ w.0 ∙ sym (ap h m.3.0))
      (ap (λ j. drop j ys) (sym (add-one i)) ∙ from m.0 (i + 1) n m.6 (omega arith) (omega arith) w.1 ∙ ap (λ j. map h (drop j xs)) (add-one i))
      ∙ sym (ap (map h) (drop-cons xs i m.1 (omega arith)))

  pub mapped : (f : F) (n : ℕ) (m : IsMapOf g f xs ys n) → length xs ≡ n → Says f 0 n m.each → ys ≡ map h xs
  mapped f n m e w = from f 0 n m.each (omega arith) (omega (arith, m.long)) w
