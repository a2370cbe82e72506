-- `rounds::last_round` meets its contract, step by step. Assumes nothing.
use mathlib.Core.Path.{ap, ◌∙◌}
use mathlib.Core.List.{List}
use Prim.Native.Nat.{ℕ}
use Rattle.rounds.specs.Cipher.{add_round_key, last_round}
use Rattle.rounds.proofs.last_round.Goals as goal

pub returns : goal.returns
unfolding last_round
returns c =
    c.add_round_key.ensures ∙ ap (λ (x : List ℕ). add_round_key x c.args.key) c.sub_shift-shifted.ensures
