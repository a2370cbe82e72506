-- `rounds::add_round_key` meets its contract: exclusive or, word by word. Assumes nothing.
use mathlib.Core.Path.{refl, ap, ◌∙◌}
use Rattle.rounds.specs.Cipher.{add_round_key}
use Rattle.rounds.specs.Columns.{state_of}
use Rattle.rounds.specs.Meaning.{added}
use Rattle.std.proofs.Common.{rules}
use Rattle.rounds.proofs.add_round_key.Goals as goal

pub returns : goal.returns
returns c =
    let s = c.args.s in
    added s c.columns_of-k.result (search rules) (search rules) refl refl refl refl
    ∙ ap (add_round_key (state_of s)) c.columns_of-k.ensures
