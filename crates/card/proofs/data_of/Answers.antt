-- `card::data_of` meets its contract. Assumes nothing.
use mathlib.Core.Path.{◌≡◌, ap}
use Prim.Native.Nat.{ℕ, ◌-◌}
use native.Mathlib.Omega.{arith}
use lib.ListN.{length, take, drop}
use Rattle.octets.specs.Lists.{part}
use Rattle.frame.specs.Frame.{data_of}
use Rattle.card.proofs.data_of.Goals as goal

pub returns : goal.returns
unfolding part data_of
returns c =
    let cmd = c.args.cmd.now in
    let e : length cmd - 1 - 5 ≡ length cmd - 6 = omega arith in
    ap (λ (n : ℕ). take n (drop 5 cmd)) e
