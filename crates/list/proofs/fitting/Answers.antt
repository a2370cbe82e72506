-- `list::fitting` meets its contract: each return is one case of `fitting`, told by the tests that led there. Assumes nothing.
use Prim.Native.Nat.{ℕ, ◌+◌, ◌≤◌}
use mathlib.Core.Path.{◌≡◌}
use mathlib.Core.List.{List}
use native.Mathlib.Omega.{arith}
use borrow.Author.Tests.{le-leb, lt-leb}
use lib.ListN.{length}
use Rattle.std.specs.Prelude.{Some}
use Rattle.list.specs.Ber.{fitting}
use Rattle.list.proofs.fitting.Goals as goal

pub returns-then-d-next : goal.returns-then-d-next
unfolding fitting
returns-then-d-next c = let a = c.args in simp (lt-leb (a.next + a.v) (length a.d.now) (omega arith))

-- a value that fits is told with the place after the length
fits : (d : List ℕ) (v n : ℕ) → n + v ≤ length d → Some (record { value = v; next = n }) ≡ fitting d v n
unfolding fitting
fits d v n h = simp (le-leb (n + v) (length d) h)

pub returns : goal.returns
returns c = let a = c.args in fits a.d.now a.v a.next (omega arith)
