-- `aes::decipher` meets its contract: what is left to do of the state is what was left at the start. Assumes nothing.
use Prim.Native.Nat.{◌-◌}
use mathlib.Core.Path.{◌≡◌}
use Rattle.rounds.specs.Columns.{state_of}
use Rattle.rounds.specs.InvCipher.{inv_rounds}
use Rattle.aes.proofs.decipher.Given as goal

abbrev pub invariant-loop-i : goal.invariant-loop-i
invariant-loop-i l = inv_rounds l.w (l.i - 1) (state_of l.t) ≡ inv_rounds l.w (l.last - 1) (state_of l.initial.t)
