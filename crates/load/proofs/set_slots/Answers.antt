-- `set_slots` meets its contract: the first slots are filled (Turns). Assumes nothing.
use Rattle.std.proofs.Common.{◌≡◌, length, length-take, rules, arith}
use Rattle.load.specs.Load.{past_set, table_of, set_slot}
use Rattle.plaid_types.specs.Cards.{no_set}
use Rattle.load.proofs.Turns.{filled-more}
use Rattle.load.proofs.set_slots.Goals as goal

pub loop-i-init : goal.loop-i-init
unfolding table_of
loop-i-init c = search rules

pub loop-i-preserved : goal.loop-i-preserved
unfolding table_of
loop-i-preserved c =
    let e : length c.args.sets ≡ 8 = search rules in
    filled-more set_slot no_set _ 8 c.loop-i.i past_set c.loop-i-test.true (omega (arith, length-take c.args.n c.args.sets)) c.loop-i.invariant c.set_slot.ensures
