-- `found` meets its contract: each number is told by the tests that led there (Answers). Assumes nothing.
use mathlib.Core.Path.{◌≡◌, sym, ◌∙◌}
use native.Mathlib.Omega.{arith}
use lib.ListN.{length}
use Rattle.key_expansion.specs.KeyLength.{length_most}
use Rattle.reader_open.proofs.Answers.{winner-below, length-other, count_none, count-over, total-other, none-opens, one-opens}
use Rattle.std.proofs.Common.{rules}
use Rattle.reader_open.proofs.found.Goals as goal

pub returns-then-not-is_key_length-clause-number : goal.returns-then-not-is_key_length-clause-number
returns-then-not-is_key_length-clause-number c =
    let a = c.args in
    length-other a.l a.ids a.count a.blocks.now (sym c.is_key_length.ensures ∙ c.if-not-is_key_length.true)

pub returns-then-count-eq0-clause-number : goal.returns-then-count-eq0-clause-number
returns-then-count-eq0-clause-number c =
    let a = c.args in
    count_none a.l a.ids a.count a.blocks.now (sym c.is_key_length.ensures ∙ c.if-not-is_key_length.false) c.if-count-eq0.true

pub returns-then-count-gt-IDS-clause-number : goal.returns-then-count-gt-IDS-clause-number
returns-then-count-gt-IDS-clause-number c =
    let a = c.args in
    count-over a.l a.ids a.count a.blocks.now (sym c.is_key_length.ensures ∙ c.if-not-is_key_length.false) c.if-count-eq0.false c.if-count-gt-IDS.true

pub returns-then-blocks-count-clause-number : goal.returns-then-blocks-count-clause-number
returns-then-blocks-count-clause-number c =
    let a = c.args in
    total-other a.l a.ids a.count a.blocks.now (sym c.is_key_length.ensures ∙ c.if-not-is_key_length.false) c.if-count-eq0.false c.if-count-gt-IDS.false c.if-blocks-count.true

pub first_of_length-at-requires : goal.first_of_length-at-requires
first_of_length-at-requires c = (sym c.is_key_length.ensures ∙ c.if-not-is_key_length.false, search rules, search rules)

pub returns-then-at-count-clause-number : goal.returns-then-at-count-clause-number
returns-then-at-count-clause-number c =
    let a = c.args in
    none-opens a.l a.ids a.count a.blocks.now (sym c.is_key_length.ensures ∙ c.if-not-is_key_length.false) c.if-count-eq0.false c.if-count-gt-IDS.false c.if-blocks-count.false c.first_of_length-at.ensures c.if-at-count.true

pub returns : goal.returns
returns c =
    let a = c.args in
    let e = sym c.is_key_length.ensures ∙ c.if-not-is_key_length.false in
    let k : length a.ids ≡ 16 = search rules in
    let w = winner-below a.l a.ids a.count a.blocks.now k c.if-count-gt-IDS.false c.first_of_length-at.ensures c.if-at-count.false in
    record {
      number = one-opens a.l a.ids a.count a.blocks.now e c.if-count-eq0.false c.if-count-gt-IDS.false c.if-blocks-count.false c.first_of_length-at.ensures c.if-at-count.false;
      place = (length_most a.l e, omega arith, omega arith, c.first_of_length-at.ensures);
    }
