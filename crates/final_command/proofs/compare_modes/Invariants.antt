-- `compare_modes` meets its contract. The invariant: the sum and the first match of the slots that are left make those of all (Slots). Assumes nothing.
use mathlib.Core.Bool.{cond}
use mathlib.Core.Path.{◌≡◌}
use lib.ListN.{drop}
use lib.Dec.{eqb}
use Rattle.work.specs.Steps.{sum_from}
use Rattle.final_command.specs.Final.{mode_steps, first_mode}
use Rattle.final_command.proofs.compare_modes.Given as goal

abbrev pub invariant-loop-i : goal.invariant-loop-i
invariant-loop-i l =
    (l.count ≡ l.i)
    × (sum_from l.s (mode_steps l.v (drop l.i l.fn.modes)) ≡ sum_from l.sum (mode_steps l.v l.fn.modes))
    × (cond (eqb l.at 16) (first_mode l.i l.v (drop l.i l.fn.modes)) l.at ≡ first_mode 0 l.v l.fn.modes)
