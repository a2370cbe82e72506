-- `list::head` meets its contract: each return is one case of `head`, told by the tests that led there. Assumes nothing.
use mathlib.Core.Path.{sym, ◌∙◌}
use Prim.Native.Nat.{◌+◌}
use native.Mathlib.Omega.{arith}
use borrow.Author.Tests.{eq-eqb, ne_eqb}
use lib.ListN.{length, get_or}
use Rattle.list.proofs.Within.{next-within, head-past}
use Rattle.list.specs.Ber.{head}
use Rattle.list.proofs.head.Goals as goal

pub returns-then-d-lt2 : goal.returns-then-d-lt2
returns-then-d-lt2 c = sym (head-past c.args.d.now (omega arith))

pub returns-then-d-ne48 : goal.returns-then-d-ne48
unfolding head
returns-then-d-ne48 c = simp (ne_eqb _ _ c.if-d-ne48.true)

pub returns-then-d : goal.returns-then-d
unfolding head
returns-then-d c =
    let d = c.args.d.now in
    simp (eq-eqb (get_or d 0 0) 0x30 c.if-d-ne48.false, eq-eqb (get_or d 1 0) 0x80 c.if-d.true)

pub returns-in_err-l : goal.returns-in_err-l
unfolding head
returns-in_err-l c =
    let d = c.args.d.now in
    c.from_residual.ensures ∙ simp (eq-eqb (get_or d 0 0) 0x30 c.if-d-ne48.false, ne_eqb (get_or d 1 0) 0x80 c.if-d.false, ← c.in_err-l.ensures)

pub overflow_sub-d : goal.overflow_sub-d
overflow_sub-d c = let h = next-within _ _ c.in_ok-l.l (sym c.in_ok-l.ensures) in omega arith

pub returns-then-d-l : goal.returns-then-d-l
unfolding head
returns-then-d-l c =
    let d = c.args.d.now in
    simp (
      eq-eqb (get_or d 0 0) 0x30 c.if-d-ne48.false,
      ne_eqb (get_or d 1 0) 0x80 c.if-d.false,
      ← c.in_ok-l.ensures,
      ne_eqb (c.in_ok-l.l.next + c.in_ok-l.l.value) (length d) (λ e. c.if-d-l.true (omega arith)),
    )

pub returns : goal.returns
unfolding head
returns c =
    let d = c.args.d.now in
    let h = next-within _ _ c.in_ok-l.l (sym c.in_ok-l.ensures) in
    simp (
      eq-eqb (get_or d 0 0) 0x30 c.if-d-ne48.false,
      ne_eqb (get_or d 1 0) 0x80 c.if-d.false,
      ← c.in_ok-l.ensures,
      eq-eqb (c.in_ok-l.l.next + c.in_ok-l.l.value) (length d) (omega arith),
    )
