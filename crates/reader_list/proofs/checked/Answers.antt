-- `checked` meets its contract: each number is told by the tests that led there (Answers). Assumes nothing.
use mathlib.Core.Path.{◌≡◌, sym}
use lib.ListN.{length}
use Rattle.reader_list.proofs.Answers.{found, count_none, count-over, id-again, out-short, none-applies}
use Rattle.std.proofs.Common.{rules}
use Rattle.reader_list.proofs.checked.Goals as goal

pub returns-then-count-eq0-clause-number : goal.returns-then-count-eq0-clause-number
returns-then-count-eq0-clause-number c = sym (count_none _ _ _ c.if-count-eq0.true)

pub returns-then-count-gt-IDS-clause-number : goal.returns-then-count-gt-IDS-clause-number
returns-then-count-gt-IDS-clause-number c = sym (count-over _ _ _ c.if-count-eq0.false c.if-count-gt-IDS.true)

pub returns-then-repeats-clause-number : goal.returns-then-repeats-clause-number
returns-then-repeats-clause-number c =
    let a = c.args in
    sym (
    id-again _ _ _ c.if-count-eq0.false c.if-count-gt-IDS.false
    (found a.ids a.count c.numbers-all.ensures c.repeats.ensures c.if-repeats.true)
    )

pub returns-then-room-count-clause-number : goal.returns-then-room-count-clause-number
returns-then-room-count-clause-number c =
    let a = c.args in
    let l : length a.ids ≡ 16 = search rules in
    sym (
    out-short _ _ _ l c.if-count-eq0.false c.if-count-gt-IDS.false
    (found a.ids a.count c.numbers-all.ensures c.repeats.ensures c.if-repeats.false) c.if-room-count.true
    )

pub returns-clause-number : goal.returns-clause-number
returns-clause-number c =
    let a = c.args in
    let l : length a.ids ≡ 16 = search rules in
    sym (
    none-applies _ _ _ l c.if-count-eq0.false c.if-count-gt-IDS.false
    (found a.ids a.count c.numbers-all.ensures c.repeats.ensures c.if-repeats.false) c.if-room-count.false
    )
