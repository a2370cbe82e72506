-- `encipher` meets its contract, by that of `chain`. Assumes nothing.
use mathlib.Core.Path.{sym, ◌∙◌}
use Rattle.aes.specs.Aes.{cipher_by}
use Rattle.cbc.specs.Laws.{encrypted-whole}
use Rattle.cbc.proofs.encipher.Goals as goal

pub returns : goal.returns
returns c =
    let a = c.args in
    (c.chain.ensures.0, c.chain.ensures.1 ∙ sym (encrypted-whole (cipher_by a.w.now) a.start a.text.now))
