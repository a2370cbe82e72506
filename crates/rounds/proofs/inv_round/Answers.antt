-- `rounds::inv_round` meets its contract, step by step. Assumes nothing.
use mathlib.Core.Path.{ap, ◌∙◌}
use mathlib.Core.List.{List}
use Prim.Native.Nat.{ℕ}
use Rattle.rounds.specs.Cipher.{add_round_key}
use Rattle.rounds.specs.InvCipher.{inv_mix_columns, inv_round}
use Rattle.rounds.proofs.inv_round.Goals as goal

pub returns : goal.returns
unfolding inv_round
returns c =
    c.inv_mix_columns.ensures
    ∙ ap inv_mix_columns (c.add_round_key-added.ensures ∙ ap (λ (x : List ℕ). add_round_key x c.args.key) c.inv_shift_sub-restored.ensures)
