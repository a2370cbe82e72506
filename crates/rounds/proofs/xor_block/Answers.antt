-- `rounds::xor_block` meets its contract: what ADDROUNDKEY adds are two blocks. Assumes nothing.
use mathlib.Core.Path.{ap, ◌∙◌}
use mathlib.Core.List.{List}
use Prim.Native.Nat.{ℕ}
use Rattle.rounds.specs.Cipher.{add_round_key}
use Rattle.rounds.proofs.xor_block.Goals as goal

pub returns : goal.returns
returns c =
    c.bytes_of.ensures
    ∙ c.add_round_key-sum.ensures
    ∙ ap (λ (x : List ℕ). add_round_key x c.args.b) c.columns_of-words.ensures
