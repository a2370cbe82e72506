-- `read_digits` meets its contract: i octets are written, and one more (Writes). Assumes nothing.
use native.Mathlib.Omega.{arith}
use lib.ListN.{length-set}
use Rattle.hexadecimal.specs.Laws.{length-octets}
use Rattle.hexadecimal.proofs.Writes.{octets-turn, octets-all}
use Rattle.hexadecimal.proofs.read_digits.Goals as goal

pub bounds-out-at : goal.bounds-out-at
bounds-out-at c = omega (arith, length-octets c.args.digits.now)

pub loop-i-preserved : goal.loop-i-preserved
loop-i-preserved c =
    let q = c.loop-i in (
      simp length-set q.invariant.0,
      octets-turn c.args.out.now c.args.digits.now c.args.at q.i (omega arith) (omega (arith, length-octets c.args.digits.now)) q.invariant.1
          c.digit_value-high.ensures.value c.digit_value-low.ensures.value,
    )

pub returns : goal.returns
returns c =
    let q = c.loop-i in
    let a = c.args in
    octets-all a.out.now a.digits.now a.at q.i (omega arith) q.invariant.1
