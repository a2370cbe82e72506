-- `has_no_zero` meets its contract: the fold is the definition's. Assumes nothing.
use Rattle.std.proofs.Common.{◌≡◌, refl, Bool, true, false, ◌&&◌, not, List, [], ◌∷◌, ℕ, eqb, fold, rules, ◌∙◌}
use Rattle.std.proofs.lemmas.Iterator.{YieldsList-from_slice}
use Rattle.std.proofs.lemmas.Iterator.Consumers.{fold_from_yields_List}
use Rattle.frame.specs.Declines.{no_zero}
use Rattle.frame.proofs.has_no_zero.Goals as goal

abbrev also : Bool → ℕ → Bool
also ok b = ok && not (eqb b 0)

folded : (ok : Bool) (bs : List ℕ) → fold also ok bs ≡ (ok && no_zero bs)
folded true [] = refl
folded false [] = refl
folded true (b ∷ bs) = folded (not (eqb b 0)) bs
folded false (b ∷ bs) = folded false bs

pub returns : goal.returns
returns c =
    fold_from_yields_List _ also true _ c.fold.ensures.ran (YieldsList-from_slice c.args.s.now cc) (λ a x b q k. (search rules, search rules))
    ∙ folded true c.args.s.now
