-- `pad` meets its contract: 0x80 is stored, and the rest of the blocks filled with zeros (Buffer). Assumes nothing.
use Rattle.std.proofs.Common.{sym, ap, ◌∙◌, ◌*◌, ◌≤◌, ◌<◌, length, Some, arith}
use Rattle.padding.specs.Method2.{blocks_for}
use Rattle.padding.proofs.Buffer.{answer-fits, buffer-filled, answer-short, buffer-short}
use Rattle.padding.proofs.pad.Goals as goal

pub returns-then-buf-blocks : goal.returns-then-buf-blocks
returns-then-buf-blocks c =
    let a = c.args in
    let l : length a.buf.now < 16 * blocks_for a.t = omega arith in
    record { answer = sym (answer-short a.buf.now a.t l); bytes = sym (buffer-short a.buf.now a.t l) }

pub returns : goal.returns
returns c =
    let a = c.args in
    let b = c.blocks_for-blocks in
    let l : 16 * blocks_for a.t ≤ length a.buf.now = omega arith in
    record {
      answer = ap (λ n. Some (16 * n)) b.ensures ∙ sym (answer-fits a.buf.now a.t l);
      bytes = buffer-filled a.buf.now a.t l c.fill.new.self _ _ (omega arith) (omega arith) (c.fill.ensures.after (λ y q. q));
    }
