-- `list::entry_at` meets its contract: each return is one case of `entry_at`, told by the tests that led there. Assumes nothing.
use mathlib.Core.Path.{sym, ◌∙◌}
use borrow.Author.Tests.{eq-eqb, ne_eqb, ltb-false}
use Rattle.list.proofs.Within.{entry-within}
use Rattle.list.specs.Ber.{entry_at}
use Rattle.list.specs.Laws.{no-tag, past-entry}
use Rattle.std.proofs.Common.{rules}
use Rattle.list.proofs.entry_at.Goals as goal

pub returns-in_err-tag : goal.returns-in_err-tag
returns-in_err-tag c =
    let a = c.args in
    c.from_residual.ensures ∙ sym (past-entry a.d.now a.at (ltb-false _ _ (sym c.in_err-tag.ensures.lookup.0)))

pub returns-then-tag-ne4 : goal.returns-then-tag-ne4
returns-then-tag-ne4 c =
    let a = c.args in
    sym (no-tag a.d.now a.at (λ e. c.if-tag-ne4.true (c.in_ok-tag.ensures.lookup.3.1 0 ∙ e)))

pub returns-in_err-l : goal.returns-in_err-l
unfolding entry_at
returns-in_err-l c = c.from_residual-in_err-l.ensures ∙ simp (eq-eqb _ _ (sym (c.in_ok-tag.ensures.lookup.3.1 0) ∙ c.if-tag-ne4.false), ← c.in_err-l.ensures)

pub returns-then-l-ne2 : goal.returns-then-l-ne2
unfolding entry_at
returns-then-l-ne2 c = simp (eq-eqb _ _ (sym (c.in_ok-tag.ensures.lookup.3.1 0) ∙ c.if-tag-ne4.false), ← c.in_ok-l.ensures, ne_eqb c.in_ok-l.l.value 2 c.if-l-ne2.true)

pub id_at-requires : goal.id_at-requires
id_at-requires c = entry-within _ _ c.in_ok-l.l (sym c.in_ok-l.ensures) c.if-l-ne2.false

pub overflow_add-result : goal.overflow_add-result
overflow_add-result c = let h = entry-within _ _ c.in_ok-l.l (sym c.in_ok-l.ensures) c.if-l-ne2.false in search rules

pub returns : goal.returns
unfolding entry_at
returns c = simp (eq-eqb _ _ (sym (c.in_ok-tag.ensures.lookup.3.1 0) ∙ c.if-tag-ne4.false), ← c.in_ok-l.ensures, eq-eqb c.in_ok-l.l.value 2 c.if-l-ne2.false, ← c.id_at.ensures)
