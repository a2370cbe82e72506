-- `first` meets its contract. The loop's invariant: what is found from place i on, with what was found before, is the winner (Turns).
-- Assumes nothing.
use mathlib.Core.Path.{◌≡◌, ap, ◌∙◌}
use native.Mathlib.Omega.{arith}
use lib.ListN.{length, take}
use lib.Seq.{length-take-le}
use Rattle.octets.specs.Lists.{part-long}
use Rattle.steps.specs.Laws.{kept-start}
use Rattle.reader_open.specs.Open.{opens_as, winner}
use Rattle.reader_open.proofs.Turns.{first-turn, first_done}
use Rattle.std.proofs.Common.{rules}
use Rattle.reader_open.proofs.first.Goals as goal

pub loop-i-init : goal.loop-i-init
loop-i-init c = let a = c.args in kept-start a.n (winner a.l a.ids a.n a.blocks.now)

pub opens-hit-requires : goal.opens-hit-requires
opens-hit-requires c =
    let a = c.args in
    let k : length a.ids ≡ 16 = search rules in
    let t : length (take a.n a.ids) ≡ a.n = length-take-le a.n a.ids (omega arith) in
    (c.requires.0, part-long _ _ _ (omega (arith, c.requires.2, c.loop-i-test.true)) c.part_of-block.ensures)

pub loop-i-preserved : goal.loop-i-preserved
loop-i-preserved c =
    let s = c.args in
    let q = c.loop-i in
    let k : length s.ids ≡ 16 = search rules in
    let t : length (take s.n s.ids) ≡ s.n = length-take-le s.n s.ids (omega arith) in
    first-turn s.l s.blocks.now (take s.n s.ids) s.n q.i q.at (omega arith) c.loop-i-test.true
    (c.opens-hit.ensures ∙ ap (opens_as _ _) c.part_of-block.ensures)
    c.keep-at.ensures
    q.invariant

pub returns : goal.returns
returns c =
    let s = c.args in
    let q = c.loop-i in
    let k : length s.ids ≡ 16 = search rules in
    let t : length (take s.n s.ids) ≡ s.n = length-take-le s.n s.ids (omega arith) in
    first_done s.l s.blocks.now (take s.n s.ids) s.n q.i q.at (omega (arith, q.auto.i-end)) c.loop-i-test.false q.invariant
