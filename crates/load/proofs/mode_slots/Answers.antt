-- `mode_slots` meets its contract: the first slots are filled (Turns). Assumes nothing.
use Rattle.load.specs.Load.{past_mode, mode_slot}
use Rattle.plaid_types.specs.Cards.{no_mode}
use Rattle.load.proofs.Turns.{filled-more}
use Rattle.load.proofs.mode_slots.Goals as goal

pub loop-i-preserved : goal.loop-i-preserved
loop-i-preserved c = filled-more mode_slot no_mode _ 16 c.loop-i.i past_mode c.loop-i-test.true c.requires c.loop-i.invariant c.mode_slot.ensures
