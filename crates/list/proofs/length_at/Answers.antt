-- `list::length_at` meets its contract: each return is one case of `length_at`, told by the tests that led there. Assumes nothing.
use mathlib.Core.Path.{sym, ap, ◌∙◌}
use Prim.Native.Nat.{ℕ, ◌+◌}
use native.Mathlib.Omega.{arith}
use borrow.Author.Tests.{ltb-false}
use Rattle.octets.specs.Lists.{part}
use Rattle.list.specs.Ber.{fitting}
use Rattle.list.proofs.Within.{length-past, length-short, length-80, length-FF, length_cut, length-long}
use Rattle.std.proofs.Common.{rules}
use Rattle.list.proofs.length_at.Goals as goal

pub returns-in_err-get : goal.returns-in_err-get
returns-in_err-get c =
    let a = c.args in
    c.from_residual.ensures ∙ sym (length-past a.d.now a.at (ltb-false _ _ (sym c.in_err-get.ensures.lookup.0)))

pub returns-then-b-lt128 : goal.returns-then-b-lt128
returns-then-b-lt128 c =
    let a = c.args in
    let e = c.from-b.ensures ∙ c.in_ok-get.ensures.lookup.3.1 0 in
    c.fitting.ensures ∙ ap (λ (n : ℕ). fitting a.d.now n (a.at + 1)) e ∙ sym (length-short a.d.now a.at (omega arith))

pub returns-then-b-lt129 : goal.returns-then-b-lt129
returns-then-b-lt129 c =
    let a = c.args in
    let e = c.from-b.ensures ∙ c.in_ok-get.ensures.lookup.3.1 0 in
    sym (length-80 a.d.now a.at (omega arith))

pub returns-then-b-gt254 : goal.returns-then-b-gt254
returns-then-b-gt254 c =
    let a = c.args in
    let e = c.from-b.ensures ∙ c.in_ok-get.ensures.lookup.3.1 0 in
    sym (length-FF a.d.now a.at (omega arith))

pub returns-then-d-from : goal.returns-then-d-from
returns-then-d-from c =
    let a = c.args in
    let e = c.from-b.ensures ∙ c.in_ok-get.ensures.lookup.3.1 0 in
    sym (length_cut a.d.now a.at (omega arith) (omega arith) (omega arith))

pub returns : goal.returns
unfolding part
returns c =
    let a = c.args in
    let e = c.from-b.ensures ∙ c.in_ok-get.ensures.lookup.3.1 0 in
    c.fitting-2.ensures
    ∙ sym (length-long a.d.now a.at (omega arith) (omega arith) c.number-v.result _ (search rules) (omega arith) c.number-v.ensures)
