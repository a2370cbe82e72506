-- `key_expansion::short_rows` meets its contract: the rows below i are the round keys, and the words before row i are the schedule's.
-- Assumes nothing.
use mathlib.Core.Path.{refl, sym, ap, ◌∙◌}
use native.Mathlib.Omega.{arith}
use Rattle.octets.specs.Lists.{part}
use Rattle.rounds.specs.Columns.{state_of}
use Rattle.key_expansion.specs.KeyLength.{is_key_length}
use Rattle.key_expansion.specs.Schedule.{fifteen}
use Rattle.key_expansion.specs.Filling.{key-words, made_none, made_more, made_all, behind-one}
use Rattle.std.proofs.Common.{rules}
use Rattle.key_expansion.proofs.short_rows.Goals as goal

pub loop-i-init : goal.loop-i-init
unfolding is_key_length part
loop-i-init c =
    let s = c.columns_of-newer.result in
    let f = key-words 4 (state_of s) s 0 (omega arith) refl in
    made_none 4 refl (state_of s) _ s s f f (sym c.columns_of-newer.ensures) (λ z. absurd (omega arith)) refl refl

pub loop-i-preserved : goal.loop-i-preserved
unfolding is_key_length
loop-i-preserved c =
    let l = c.loop-i in
    let t = c.turn-t in
    let s = c.columns_of-newer.result in
    let e = t.ensures in
    let m = made_more 4 (state_of s) refl l.newer l.newer t.result.next 0 l.x l.i (search rules) c.loop-i-test.true l.invariant e.0 e.1 refl e.3 c.bytes_of.ensures in
    (m.0, m.1, m.2, record { source = m.3.source; last = m.3.last; place = m.3.place; below = m.3.below; constant = m.3.constant }, m.4)

pub returns : goal.returns
unfolding is_key_length
returns c =
    let l = c.loop-i in
    let s = c.columns_of-newer.result in
    made_all 4 (state_of s) refl _ l.w l.i (search rules) (λ k h d. behind-one _ k (omega arith) d) c.loop-i-test.false l.invariant
    ∙ ap (fifteen 4) c.columns_of-newer.ensures
