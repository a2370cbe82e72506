-- `ends_with` meets its contract: a text of fewer than 2 + 2L bytes does not. Assumes nothing.
use Prim.Native.Nat.{◌+◌, ◌-◌, ◌*◌}
use native.Mathlib.Omega.{arith}
use lib.ListN.{length}
use borrow.Author.Tests.{le-leb, lt-leb}
use Rattle.octets.specs.Lists.{part-long}
use Rattle.final_command.proofs.ends_with.Goals as goal

pub equal-requires : goal.equal-requires
equal-requires c =
    let a = c.args in
    part-long a.s.now (a.t - length a.hash.now) (length a.hash.now) (omega arith) c.part_of.ensures

pub returns-then-l-t : goal.returns-then-l-t
returns-then-l-t c =
    let a = c.args in
    simp (c.equal.ensures, c.part_of.ensures, le-leb (2 + 2 * length a.hash.now) a.t c.if-l-t.true)

pub returns-else-l-t : goal.returns-else-l-t
returns-else-l-t c =
    let a = c.args in
    simp (lt-leb (2 + 2 * length a.hash.now) a.t c.if-l-t.false)
