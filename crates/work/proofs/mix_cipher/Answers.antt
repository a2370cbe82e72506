-- `mix_cipher` meets its contract, part by part. Assumes nothing.
use Prim.Native.Nat.{ℕ}
use mathlib.Core.Path.{ap, ◌∙◌}
use Rattle.work.specs.Steps.{mixed_all}
use Rattle.work.specs.Weights.{mixed_prepared}
use Rattle.work.proofs.mix_cipher.Goals as goal

pub returns : goal.returns
returns c =
    let a = c.args in
    c.mix_block.ensures
    ∙ ap (λ (s : ℕ). mixed_all s a.output)
    (c.mix_block-after_input.ensures
    ∙ ap (λ (s : ℕ). mixed_all s a.input) (c.mix_prepared-after_key.ensures ∙ ap (λ (s : ℕ). mixed_prepared s a.key) c.mix-after_kind.ensures))
