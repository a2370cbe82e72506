-- `with_handle` meets its contract: the fold is the look for an element (Turns). Assumes nothing.
use Rattle.std.proofs.Common.{Bool, false, eqb, ◌||◌, ◌∙◌, rules}
use Rattle.std.proofs.lemmas.Iterator.{YieldsList-from_slice}
use Rattle.std.proofs.lemmas.Iterator.Consumers.{fold_from_yields_List}
use Rattle.plaid_types.specs.declared.KeySet.{KeySet}
use Rattle.load.proofs.Turns.{fold-some}
use Rattle.load.proofs.with_handle.Goals as goal

pub returns : goal.returns
returns c =
    let p : KeySet → Bool = λ k. eqb k.handle c.args.handle in
    fold_from_yields_List _ (λ b x. b || p x) false _ c.fold.ensures.ran (YieldsList-from_slice c.args.sets.now cc) (λ a x b q k. search rules)
    ∙ fold-some p c.args.sets.now false
