-- `bad_records` meets its contract: the fold is the look for an element (Turns). Assumes nothing.
use Rattle.std.proofs.Common.{Bool, false, ◌||◌, ◌∙◌, rules}
use Rattle.std.proofs.lemmas.Iterator.{YieldsList-from_slice}
use Rattle.std.proofs.lemmas.Iterator.Consumers.{fold_from_yields_List}
use Rattle.plaid_types.specs.declared.Mode.{Mode}
use Rattle.load.specs.Load.{bad_record}
use Rattle.load.proofs.Turns.{fold-some}
use Rattle.load.proofs.bad_records.Goals as goal

pub returns : goal.returns
returns c =
    let p : Mode → Bool = bad_record c.args.area in
    fold_from_yields_List _ (λ b x. b || p x) false _ c.fold.ensures.ran (YieldsList-from_slice c.args.modes.now cc) (λ a x b q k. search rules)
    ∙ fold-some p c.args.modes.now false
