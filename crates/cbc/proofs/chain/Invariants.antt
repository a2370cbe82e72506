-- What is done of the text and what is left to do make the same whole (Turns), and so do the steps. Assumes nothing.
use Prim.Native.Nat.{◌-◌, ◌*◌}
use mathlib.Core.Path.{◌≡◌}
use mathlib.Core.List.{◌++◌}
use lib.ListN.{length, take, drop}
use Rattle.work.specs.Steps.{sum_from}
use Rattle.cbc.specs.Chain.{whole}
use Rattle.cbc.specs.Ways.{out, next, steps_of}
use Rattle.cbc.proofs.chain.Given as goal

abbrev pub invariant-loop-n : goal.invariant-loop-n
invariant-loop-n l =
    (length l.text ≡ length l.initial.text)
    × (take (16 * l.n) l.text ++ whole (out l.way l.w) (next l.way l.w) l.chained (drop (16 * l.n) l.text) ≡ whole (out l.way l.w) (next l.way l.w) l.initial.chained l.initial.text)
    × (sum_from l.after (steps_of l.way l.key l.w l.chained (l.blocks - l.n) (drop (16 * l.n) l.text)) ≡ sum_from l.sum (steps_of l.way l.key l.w l.initial.chained l.blocks l.initial.text))
