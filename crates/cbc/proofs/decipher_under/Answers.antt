-- `cbc::decipher_under` meets its contract: the rows that are lent are the round keys. Assumes nothing.
use mathlib.Core.Path.{sym, ap, ◌∙◌}
use mathlib.Core.List.{List}
use Prim.Native.Nat.{ℕ, ◌/◌}
use native.Mathlib.Omega.{arith}
use lib.ListN.{length}
use Rattle.aes.specs.Rows.{length-lent, lent-inv_aes}
use Rattle.work.specs.Steps.{decipherment}
use Rattle.cbc.specs.Cbc.{decrypted_whole}
use Rattle.cbc.specs.Steps.{deciphered, made}
use Rattle.cbc.proofs.decipher_under.Goals as goal

pub slice_bounds-decipher-end : goal.slice_bounds-decipher-end
slice_bounds-decipher-end c = sym (length-lent c.args.key.now c.requires.1)

pub decipher-requires : goal.decipher-requires
decipher-requires c = omega (arith, length-lent c.args.key.now c.requires.1)

pub returns : goal.returns
returns c =
    let a = c.args in
    let f = lent-inv_aes a.key.now c.requires.1 in
    let t = a.text.now in
    let e = c.decipher.ensures in
    (e.0 ∙ ap (λ (g : List ℕ → List ℕ). made decipherment a.sum (deciphered a.key.now g (length t / 16) t)) f, e.1 ∙ ap (λ (g : List ℕ → List ℕ). decrypted_whole g a.start t) f)
