-- `decipher` meets its contract, by that of `chain`. Assumes nothing.
use mathlib.Core.Path.{sym, ◌∙◌}
use Rattle.aes.specs.Aes.{inv_cipher_by}
use Rattle.cbc.specs.Laws.{decrypted-whole}
use Rattle.cbc.proofs.decipher.Goals as goal

pub returns : goal.returns
returns c =
    let a = c.args in
    (c.chain.ensures.0, c.chain.ensures.1 ∙ sym (decrypted-whole (inv_cipher_by a.w.now) a.start a.text.now))
