-- `aes::encipher` meets its contract: before turn i the state is that of i - 1 rounds. Assumes nothing.
use Prim.Native.Nat.{◌-◌}
use mathlib.Core.Path.{◌≡◌}
use Rattle.rounds.specs.Columns.{state_of}
use Rattle.rounds.specs.Cipher.{rounds}
use Rattle.aes.proofs.encipher.Given as goal

abbrev pub invariant-loop-i : goal.invariant-loop-i
invariant-loop-i l = state_of l.t ≡ rounds l.w (l.i - 1) (state_of l.initial.t)
