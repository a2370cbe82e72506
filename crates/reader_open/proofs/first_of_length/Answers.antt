-- `first_of_length` meets its contract: the length that is written is l. Assumes nothing.
use mathlib.Core.Path.{sym, ap, ◌∙◌}
use Prim.Native.Nat.{ℕ}
use Rattle.plaid_types.specs.KeyLaws.{length-else}
use Rattle.reader_open.specs.Open.{winner}
use Rattle.reader_open.proofs.first_of_length.Goals as goal

pub returns-then-l-eq16 : goal.returns-then-l-eq16
returns-then-l-eq16 c =
    let a = c.args in
    c.first.ensures ∙ ap (λ (l : ℕ). winner l a.ids a.n a.blocks.now) (sym c.if-l-eq16.true)

pub returns-then-l-eq24 : goal.returns-then-l-eq24
returns-then-l-eq24 c =
    let a = c.args in
    c.first-then-l-eq24.ensures ∙ ap (λ (l : ℕ). winner l a.ids a.n a.blocks.now) (sym c.if-l-eq24.true)

pub returns : goal.returns
returns c =
    let a = c.args in
    c.first-2.ensures
    ∙ ap (λ (l : ℕ). winner l a.ids a.n a.blocks.now) (sym (length-else a.l c.requires.0 c.if-l-eq16.false c.if-l-eq24.false))
