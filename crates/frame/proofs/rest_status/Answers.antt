-- `rest_status` meets its contract: each answer says of Lc, the total and Le what makes the frame whole or not. Assumes nothing.
use Rattle.std.proofs.Common.{arith, length}
use Rattle.frame.specs.Frame.{frame_of}
use Rattle.frame.specs.Laws.{frame_byte, frame-last, whole_is, whole-not}
use Rattle.frame.proofs.rest_status.Goals as goal

pub returns-then-n-lt7 : goal.returns-then-n-lt7
returns-then-n-lt7 c =
    let s = c.args.cmd.now in
    simp (whole-not (length s) (frame_of s) (λ p q r. omega arith))

pub returns-then-n-lc : goal.returns-then-n-lc
returns-then-n-lc c =
    let s = c.args.cmd.now in
    simp (whole-not (length s) (frame_of s) (λ p q r. omega (arith, frame_byte s 4 (omega arith))))

pub returns-then-cmd-n-ne0 : goal.returns-then-cmd-n-ne0
returns-then-cmd-n-ne0 c =
    let s = c.args.cmd.now in
    simp (whole-not (length s) (frame_of s) (λ p q r. omega (arith, frame-last s (omega arith))))

pub returns : goal.returns
returns c =
    let s = c.args.cmd.now in
    simp (whole_is (length s) (frame_of s) (omega (arith, frame_byte s 4 (omega arith))) (omega (arith, frame_byte s 4 (omega arith))) (omega (arith, frame-last s (omega arith))))
