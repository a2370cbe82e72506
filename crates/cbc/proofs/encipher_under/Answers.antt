-- `cbc::encipher_under` meets its contract: the rows that are lent are the round keys. Assumes nothing.
use mathlib.Core.Path.{sym, ap, ◌∙◌}
use mathlib.Core.List.{List}
use Prim.Native.Nat.{ℕ, ◌/◌}
use native.Mathlib.Omega.{arith}
use lib.ListN.{length}
use Rattle.aes.specs.Rows.{length-lent, lent-aes}
use Rattle.work.specs.Steps.{encipherment}
use Rattle.cbc.specs.Cbc.{encrypted_whole}
use Rattle.cbc.specs.Steps.{enciphered, made}
use Rattle.cbc.proofs.encipher_under.Goals as goal

pub slice_bounds-encipher-end : goal.slice_bounds-encipher-end
slice_bounds-encipher-end c = sym (length-lent c.args.key.now c.requires.1)

pub encipher-requires : goal.encipher-requires
encipher-requires c = omega (arith, length-lent c.args.key.now c.requires.1)

pub returns : goal.returns
returns c =
    let a = c.args in
    let f = lent-aes a.key.now c.requires.1 in
    let t = a.text.now in
    let e = c.encipher.ensures in
    (e.0 ∙ ap (λ (g : List ℕ → List ℕ). made encipherment a.sum (enciphered a.key.now g a.start (length t / 16) t)) f, e.1 ∙ ap (λ (g : List ℕ → List ℕ). encrypted_whole g a.start t) f)
