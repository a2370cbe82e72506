-- `are_digits` meets its contract: ok, and one character more (`each_turn`). Assumes nothing.
use Rattle.std.proofs.Common.{arith}
use Rattle.conversion.specs.Answers.{each_turn}
use Rattle.hexadecimal.specs.Hexadecimal.{is_digit}
use Rattle.hexadecimal.proofs.are_digits.Goals as goal

pub loop-c-preserved : goal.loop-c-preserved
loop-c-preserved c =
    let l = c.loop-c in
    each_turn is_digit c.args.s.now l.c-index l.ok c.is_digit.result (omega arith) c.is_digit.ensures c.both-ok.ensures l.invariant
