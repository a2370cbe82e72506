-- A load of the first eight key sets of a list, counted as many as it has, is the load of the list. Assumes nothing.
use mathlib.Core.Path.{◌≡◌, refl, sym, ap, ◌∙◌}
use mathlib.Core.List.{List, ◌∷◌}
use Prim.Native.Nat.{ℕ, zero, suc, ◌≤◌}
use native.Mathlib.Nat.{not-suc-le-zero, le_of_suc-le-suc, zero-add}
use lib.ListN.{length, get_or, take}
use lib.Seq.{take-length}
use Rattle.octets.specs.Lists.{table, tabled}
use Rattle.plaid_types.specs.declared.KeySet.{KeySet}
use Rattle.plaid_types.specs.declared.Card.{Card}
use Rattle.load.specs.Load.{loaded}
use Rattle.load.proofs.Laws.{counted-only}
use Rattle.key_change.specs.KeyChange.{changed, sets_loaded}
use Rattle.key_change.proofs.Laws.{change-counted}
use Rattle.key_set_list.specs.First.{blank_set, eight_of}
use Rattle.plaid.specs.Interface.{load_of}
use Rattle.plaid.specs.declared.Given.{Given}

take-table : {A : Type 0} (f : ℕ → A) (k n j : ℕ) → k ≤ n → take k (table f n j) ≡ table f k j
take-table f zero n j h = refl
take-table f (suc k) zero j h = absurd (not-suc-le-zero h)
take-table f (suc k) (suc n) j h = ap (λ r. f j ∷ r) (take-table f k n (suc j) (le_of_suc-le-suc h))

-- what stands for a set past the list's end is not among those counted
all-taken : (l : List KeySet) → length l ≤ 8 → take (length l) (eight_of l).sets ≡ take (length l) l
all-taken l h =
    let at : ℕ → KeySet = λ i. get_or l i blank_set in
    take-table at (length l) 8 0 h ∙ sym (tabled at (length l) 0 l blank_set (zero-add (length l)) (λ i p. refl)) ∙ sym (take-length l)

pub load-first : (l : List KeySet) (g : Given) (area : List ℕ) →
    loaded g.key_length (eight_of l).sets (length l) g.modes g.mode_count area g.div_data g.shill_key g.shill_handle ≡ load_of l g area
unfolding load_of
load-first l g area =
    counted-only g.key_length (eight_of l).sets l (length l) g.modes g.mode_count area g.div_data g.shill_key g.shill_handle (all-taken l)

pub change-first : (c : Card) (l : List KeySet) → changed c (eight_of l).sets (length l) ≡ sets_loaded c l
unfolding sets_loaded
change-first c l = change-counted c (eight_of l).sets l (length l) (all-taken l)
