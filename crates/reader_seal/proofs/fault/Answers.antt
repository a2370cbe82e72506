-- `reader_seal::fault` meets its contract, test by test (`Cases`). Assumes nothing.
use mathlib.Core.Path.{sym, ◌∙◌}
use native.Mathlib.Omega.{arith}
use Rattle.key_expansion.specs.KeyLength.{length_most}
use Rattle.reader_seal.proofs.Cases.{length-other, key-other, rnd1-other, rnd2-other, payload-long, output-short, no-fault}
use Rattle.std.proofs.Common.{rules}
use Rattle.reader_seal.proofs.fault.Goals as goal

pub returns-then-not-is_key_length : goal.returns-then-not-is_key_length
returns-then-not-is_key_length c =
    let a = c.args in
    length-other a.l a.fa_key a.rnd1 a.rnd2 a.p a.room (sym c.is_key_length.ensures ∙ c.if-not-is_key_length.true)

pub returns-then-fa_key-l : goal.returns-then-fa_key-l
returns-then-fa_key-l c =
    let a = c.args in
    key-other a.l a.fa_key a.rnd1 a.rnd2 a.p a.room (sym c.is_key_length.ensures ∙ c.if-not-is_key_length.false) c.if-fa_key-l.true

pub returns-then-rnd1-l : goal.returns-then-rnd1-l
returns-then-rnd1-l c =
    let a = c.args in
    rnd1-other a.l a.fa_key a.rnd1 a.rnd2 a.p a.room (sym c.is_key_length.ensures ∙ c.if-not-is_key_length.false) c.if-fa_key-l.false c.if-rnd1-l.true

pub returns-then-rnd2-l : goal.returns-then-rnd2-l
returns-then-rnd2-l c =
    let a = c.args in
    rnd2-other a.l a.fa_key a.rnd1 a.rnd2 a.p a.room (sym c.is_key_length.ensures ∙ c.if-not-is_key_length.false) c.if-fa_key-l.false c.if-rnd1-l.false c.if-rnd2-l.true

pub overflow_sub-l : goal.overflow_sub-l
overflow_sub-l c = search (rules, length_most _ (sym c.is_key_length.ensures ∙ c.if-not-is_key_length.false))

pub returns-then-l-p : goal.returns-then-l-p
returns-then-l-p c =
    let a = c.args in
    payload-long a.l a.fa_key a.rnd1 a.rnd2 a.p a.room (sym c.is_key_length.ensures ∙ c.if-not-is_key_length.false) c.if-fa_key-l.false c.if-rnd1-l.false c.if-rnd2-l.false c.if-l-p.true

pub lc_of-requires : goal.lc_of-requires
lc_of-requires c = (length_most _ (sym c.is_key_length.ensures ∙ c.if-not-is_key_length.false), c.if-l-p.false)

pub returns-then-room-lc_of : goal.returns-then-room-lc_of
returns-then-room-lc_of c =
    let a = c.args in
    output-short a.l a.fa_key a.rnd1 a.rnd2 a.p a.room (sym c.is_key_length.ensures ∙ c.if-not-is_key_length.false) c.if-fa_key-l.false c.if-rnd1-l.false c.if-rnd2-l.false c.if-l-p.false (omega (arith, c.if-room-lc_of.true, c.lc_of.ensures))

pub returns : goal.returns
returns c =
    let a = c.args in
    no-fault a.l a.fa_key a.rnd1 a.rnd2 a.p a.room (sym c.is_key_length.ensures ∙ c.if-not-is_key_length.false) c.if-fa_key-l.false c.if-rnd1-l.false c.if-rnd2-l.false c.if-l-p.false (omega (arith, c.if-room-lc_of.false, c.lc_of.ensures))
