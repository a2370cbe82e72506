-- `unpad` meets its contract. Each answer rests on what is seen of a padded text, `Seen` of Laws. Assumes nothing.
use Prim.Native.Nat.{◌-◌}
use mathlib.Core.Path.{◌≡◌, ap, sym, ◌∙◌}
use native.Mathlib.Omega.{arith}
use lib.ListN.{length, get_or}
use Rattle.padding.specs.Laws.{text_end-le, seen-text, seen_none}
use Rattle.padding.proofs.unpad.Goals as goal

pub returns-then-n-ne0 : goal.returns-then-n-ne0
returns-then-n-ne0 c = sym (seen_none c.args.s.now (λ m k. c.if-n-ne0.true k.whole))

pub returns-then-n-lt16 : goal.returns-then-n-lt16
returns-then-n-lt16 c =
    let s = c.args.s.now in
    sym (seen_none s (λ m k. omega (arith, text_end-le s (length s))))

pub returns-then-end-start : goal.returns-then-end-start
returns-then-end-start c =
    let s = c.args.s.now in
    sym (seen_none s (λ m k. omega arith))

pub bounds-s-place : goal.bounds-s-place
bounds-s-place c =
    let s = c.args.s.now in
    omega (arith, text_end-le s (length s))

pub returns-then-s-place : goal.returns-then-s-place
returns-then-s-place c =
    let s = c.args.s.now in
    let e = c.end_from-end.result in
    sym
    (seen-text s (e - 1)
    (record {
      whole = c.if-n-ne0.false;
      ends = omega arith;
      one = c.if-s-place.true;
      last = omega arith;
    }))

pub returns-else-s-place : goal.returns-else-s-place
returns-else-s-place c =
    let s = c.args.s.now in
    let e = c.end_from-end.result in
    sym
    (seen_none s
    (λ m k.
    let p : e - 1 ≡ m = omega arith in
    c.if-s-place.false (ap (λ i. get_or s i 0) p ∙ k.one)))
