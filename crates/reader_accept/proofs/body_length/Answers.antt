-- `reader_accept::body_length` meets its contract: each answer rewrites with the tests that led there. Assumes nothing.
use mathlib.Core.Path.{◌≡◌, refl, sym, ◌∙◌}
use native.Mathlib.Omega.{arith}
use borrow.Author.Tests.{le-leb, lt-leb}
use lib.ListN.{length}
use Rattle.octets.specs.Lists.{part-long}
use Rattle.reader_accept.specs.Accept.{right_body}
use Rattle.reader_accept.proofs.Tests.{body_is}
use Rattle.std.proofs.Common.{rules}
use Rattle.reader_accept.proofs.body_length.Goals as goal

pub returns-then-t-lt17 : goal.returns-then-t-lt17
unfolding right_body
returns-then-t-lt17 c = simp (lt-leb 17 c.args.t (omega arith))

pub returns-then-t-gt80 : goal.returns-then-t-gt80
unfolding right_body
returns-then-t-gt80 c = let t = c.args.t in simp (le-leb 17 t (omega arith), lt-leb t 80 (omega arith))

pub equal-requires : goal.equal-requires
equal-requires c =
    let d : length c.args.div ≡ 16 = search rules in
    part-long _ _ 16 (search rules) c.part_of.ensures ∙ sym d

pub returns-then-equal : goal.returns-then-equal
returns-then-equal c =
    let a = c.args in
    simp (body_is a.s.now a.t a.div (omega arith) (omega arith) c.part_of.ensures c.equal.ensures ∙ c.if-equal.true) refl

pub returns : goal.returns
returns c =
    let a = c.args in
    simp (body_is a.s.now a.t a.div (omega arith) (omega arith) c.part_of.ensures c.equal.ensures ∙ c.if-equal.false)
