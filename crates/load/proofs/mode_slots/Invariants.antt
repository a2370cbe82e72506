-- `mode_slots`: the first slots are filled. Assumes nothing.
use Rattle.std.proofs.Common.{◌≡◌, map, take}
use Rattle.plaid_types.specs.Cards.{no_mode}
use Rattle.load.specs.Load.{filled, mode_slot}
use Rattle.load.proofs.mode_slots.Given as goal

abbrev pub invariant-loop-i : goal.invariant-loop-i
invariant-loop-i l = l.slots ≡ filled 16 no_mode (map mode_slot (take l.i l.modes))
