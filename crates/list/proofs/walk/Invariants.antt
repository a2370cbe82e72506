-- `list::walk` meets its contract. The loop's invariant: p is where so many entries end. Assumes nothing.
use mathlib.Core.Path.{◌≡◌}
use Rattle.list.specs.Ber.{walked}
use Rattle.list.proofs.walk.Given as goal

abbrev pub invariant-loop : goal.invariant-loop
invariant-loop l = l.p ≡ walked l.d l.at l.counter
