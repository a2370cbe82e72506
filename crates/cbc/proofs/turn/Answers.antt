-- `turn` meets its contract, by those of its calls. Assumes nothing.
use mathlib.Core.Path.{refl, ap, ap₂, ◌∙◌}
use Rattle.octets.specs.Bytes.{block_xor}
use Rattle.aes.specs.Aes.{cipher_by}
use Rattle.work.specs.Steps.{encipherment, mixed, mixed_all}
use Rattle.work.specs.Weights.{mixed_prepared}
use Rattle.cbc.specs.Cbc.{◌⊕◌}
use Rattle.cbc.proofs.turn.Goals as goal

pub returns-in-Encipher : goal.returns-in-Encipher
unfolding ◌⊕◌
returns-in-Encipher c =
    let a = c.args in
    let x = c.xor_block-input.ensures in
    let y = c.encipher-output.ensures ∙ ap (cipher_by a.w.now) x in
    rw c.in-Encipher.is (
      y,
      y,
      c.mix_cipher.ensures
          ∙ ap (λ k. mixed_all (mixed_all (mixed_prepared (mixed a.sum k) a.key) c.xor_block-input.result) c.encipher-output.result) c.number.ensures
          ∙ ap₂ (λ i o. mixed_all (mixed_all (mixed_prepared (mixed a.sum encipherment) a.key) i) o) x y,
    )

pub returns-in-Decipher : goal.returns-in-Decipher
unfolding ◌⊕◌
returns-in-Decipher c =
    let a = c.args in
    let y = c.decipher-output.ensures in
    rw c.in-Decipher.is (
      c.xor_block-plain.ensures ∙ ap (λ x. block_xor x a.before) y,
      refl,
      c.mix_cipher-in-Decipher.ensures ∙ ap₂ (λ k o. mixed_all (mixed_all (mixed_prepared (mixed a.sum k) a.key) a.block) o) c.number-in-Decipher.ensures y,
    )
