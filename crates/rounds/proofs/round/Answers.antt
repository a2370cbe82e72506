-- `rounds::round` meets its contract, step by step. Assumes nothing.
use mathlib.Core.Path.{ap, ◌∙◌}
use mathlib.Core.List.{List}
use Prim.Native.Nat.{ℕ}
use Rattle.rounds.specs.Cipher.{mix_columns, add_round_key, round}
use Rattle.rounds.proofs.round.Goals as goal

pub returns : goal.returns
unfolding round
returns c =
    c.add_round_key.ensures
    ∙ ap (λ (x : List ℕ). add_round_key x c.args.key) (c.mix_columns-mixed.ensures ∙ ap mix_columns c.sub_shift-shifted.ensures)
