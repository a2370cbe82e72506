-- `status` meets its contract: each answer rewrites with the tests that led there. Assumes nothing.
use Rattle.std.proofs.Common.{sym, ◌∙◌, arith}
use borrow.Author.Tests.{lt-ltb, le-ltb, eq-eqb, ne_eqb}
use Rattle.frame.specs.Frame.{status_of}
use Rattle.frame.specs.Laws.{frame_byte}
use Rattle.frame.proofs.status.Goals as goal
use Rattle.frame.proofs.status.Goals.{then-cmd-ne0-2-via-then-cmd-ne0-2, then-cmd-ne0-2-via-else-cmd-ne0-2+then-cmd-ne0-3}

pub returns-then-cmd-lt4 : goal.returns-then-cmd-lt4
unfolding status_of
returns-then-cmd-lt4 c = simp (lt-ltb _ _ c.if-cmd-lt4.true)

pub returns-then-cmd-ne0 : goal.returns-then-cmd-ne0
unfolding status_of
returns-then-cmd-ne0 c =
    let s = c.args.cmd.now in
    simp (le-ltb _ _ c.if-cmd-lt4.false, frame_byte s 0 (omega arith), ne_eqb _ _ c.if-cmd-ne0.true)

pub returns-then-not-known_ins : goal.returns-then-not-known_ins
unfolding status_of
returns-then-not-known_ins c =
    let s = c.args.cmd.now in
    let k = sym c.known_ins.ensures ∙ c.if-not-known_ins.true in
    simp (le-ltb _ _ c.if-cmd-lt4.false, frame_byte s 0 (omega arith), eq-eqb _ _ c.if-cmd-ne0.false, frame_byte s 1 (omega arith), k)

pub returns-then-cmd-ne0-2 : goal.returns-then-cmd-ne0-2
unfolding status_of
returns-then-cmd-ne0-2 c =
    let s = c.args.cmd.now in
    let k = sym c.known_ins.ensures ∙ c.if-not-known_ins.false in
    elim c.then-cmd-ne0-2.branch [
      | then-cmd-ne0-2-via-then-cmd-ne0-2 w ↦ simp (le-ltb _ _ c.if-cmd-lt4.false, frame_byte s 0 (omega arith), eq-eqb _ _ c.if-cmd-ne0.false, frame_byte s 1 (omega arith), k, frame_byte s 2 (omega arith), ne_eqb _ _ w.if-cmd-ne0-2.true)
      | then-cmd-ne0-2-via-else-cmd-ne0-2+then-cmd-ne0-3 w ↦ simp (le-ltb _ _ c.if-cmd-lt4.false, frame_byte s 0 (omega arith), eq-eqb _ _ c.if-cmd-ne0.false, frame_byte s 1 (omega arith), k, frame_byte s 2 (omega arith), eq-eqb _ _ w.if-cmd-ne0-2.false, frame_byte s 3 (omega arith), ne_eqb _ _ w.if-cmd-ne0-3.true)
    ]

pub returns : goal.returns
unfolding status_of
returns c =
    let s = c.args.cmd.now in
    let k = sym c.known_ins.ensures ∙ c.if-not-known_ins.false in
    simp (le-ltb _ _ c.if-cmd-lt4.false, frame_byte s 0 (omega arith), eq-eqb _ _ c.if-cmd-ne0.false, frame_byte s 1 (omega arith), k, frame_byte s 2 (omega arith), eq-eqb _ _ c.if-cmd-ne0-2.false, frame_byte s 3 (omega arith), eq-eqb _ _ c.if-cmd-ne0-3.false, c.rest_status.ensures)
