-- `rounds::inv_last_round` meets its contract, step by step. Assumes nothing.
use mathlib.Core.Path.{ap, ◌∙◌}
use mathlib.Core.List.{List}
use Prim.Native.Nat.{ℕ}
use Rattle.rounds.specs.Cipher.{add_round_key}
use Rattle.rounds.specs.InvCipher.{inv_last_round}
use Rattle.rounds.proofs.inv_last_round.Goals as goal

pub returns : goal.returns
unfolding inv_last_round
returns c =
    c.add_round_key.ensures ∙ ap (λ (x : List ℕ). add_round_key x c.args.key) c.inv_shift_sub-restored.ensures
