-- `write_digits` meets its contract: the digits of i octets are written, and two more (Writes). Assumes nothing.
use mathlib.Core.Path.{sym}
use native.Mathlib.Omega.{arith}
use Rattle.octets.specs.Lists.{over_none}
use Rattle.hexadecimal.specs.Hexadecimal.{digits_of}
use Rattle.hexadecimal.proofs.Writes.{digits-turn}
use Rattle.std.proofs.Common.{rules}
use Rattle.hexadecimal.proofs.write_digits.Goals as goal

pub loop-i-init : goal.loop-i-init
unfolding digits_of
loop-i-init c = (search rules, sym (over_none _ _))

pub loop-i-preserved : goal.loop-i-preserved
loop-i-preserved c =
    let q = c.loop-i in (
      search rules,
      digits-turn c.args.out.now c.args.octets.now c.args.at q.i (omega arith) (omega arith) q.invariant.1
          c.digit.ensures c.digit-in-loop-i.ensures c.copy_at.ensures,
    )
