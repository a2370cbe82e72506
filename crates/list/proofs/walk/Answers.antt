-- `list::walk` meets its contract. The loop's invariant: p is where so many entries end. Assumes nothing.
use mathlib.Core.Path.{refl}
use native.Mathlib.Omega.{arith}
use Rattle.list.specs.Ber.{walked}
use Rattle.list.proofs.Within.{walk_turn, walk-stuck}
use Rattle.list.proofs.walk.Goals as goal

pub loop-init : goal.loop-init
unfolding walked
loop-init c = refl

pub returns-in_default : goal.returns-in_default
returns-in_default c = let l = c.loop in walk-stuck _ _ l.p l.counter _ (omega arith) l.invariant c.in_default.ensures

pub loop-preserved : goal.loop-preserved
loop-preserved c = let l = c.loop in walk_turn _ _ _ l.counter c.in-Some.e l.invariant c.in-Some.ensures
