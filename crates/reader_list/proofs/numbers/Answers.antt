-- `numbers` meets its contract: what is mapped is a list of the same length, by its places. Assumes nothing.
use mathlib.Core.Path.{◌≡◌, sym, ◌∙◌}
use mathlib.Core.List.{List}
use Prim.Native.Nat.{ℕ}
use native.Mathlib.Omega.{arith}
use lib.ListN.{length, length-map}
use Rattle.std.specs.Fn.{Called}
use Rattle.std.specs.Array.{IsMapOf}
use denote.Param.Members.{Mut}
use Rattle.std.proofs.lemmas.List.{same_lists, get_or-map}
use Rattle.std.specs.Prelude.{map}
use Rattle.plaid_types.specs.declared.KeySetId.{KeySetId}
use Rattle.std.proofs.Common.{rules}
use Rattle.reader_list.proofs.numbers.Goals as goal

mapped : {F A : Type 0} (g : Mut F (A × Unit {0}) ℕ) (h : A → ℕ) (f : F) (l : List A) (ids : List ℕ) (d : A) {k : ℕ} → IsMapOf g f l ids k → length l ≡ k →
    ((x : A) (y : ℕ) (p q : F) → Called g p (x, tt) y q → y ≡ h x) → ids ≡ map h l
mapped g h f l ids d {k} m z w =
    same_lists ids (map h l) (m.long ∙ sym z ∙ sym (length-map l h))
    (λ i x b. let c = m.at i d x (omega (arith, m.long)) in w _ _ _ _ c.2 ∙ sym (get_or-map h l i d x (omega (arith, m.long))))

pub returns : goal.returns
returns c = mapped _ (λ (k : KeySetId). k.0) _ _ _ (record { 0 = 0 }) c.map.ensures.items (search rules) (λ x y p q e. search rules)
