-- `mode_at` meets its contract: past the last slot there is an empty one. Assumes nothing.
use mathlib.Core.Path.{◌≡◌, sym}
use native.Mathlib.Omega.{arith}
use lib.ListN.{length, get_or-eq_default}
use Rattle.plaid_types.specs.Cards.{no_mode}
use Rattle.final_command.proofs.mode_at.Goals as goal

pub returns-else-at-lt-MODES : goal.returns-else-at-lt-MODES
returns-else-at-lt-MODES c =
    let l : length c.args.modes ≡ 16 = omega arith in
    sym (get_or-eq_default c.args.modes no_mode (omega arith))
