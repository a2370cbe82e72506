-- `largest_size` meets its contract: the fold is the look for the largest size (Turns). Assumes nothing.
use Rattle.std.proofs.Common.{◌≡◌, rules, ℕ, max, ◌∙◌}
use Rattle.std.specs.List.{fold}
use Rattle.plaid_types.specs.declared.Mode.{Mode}
use Rattle.load.specs.Load.{reply_size_for, largest_size}
use Rattle.load.proofs.Laws.{larger-none}
use Rattle.load.proofs.Turns.{fold-size}
use Rattle.load.proofs.largest_size.Goals as goal

pub returns : goal.returns
returns c =
    let e : c.fold.result ≡ fold (λ (s : ℕ) (m : Mode). max s (reply_size_for m.len)) 0 c.args.modes.now = search rules in
    e ∙ fold-size c.args.modes.now 0 ∙ larger-none (largest_size c.args.modes.now)
