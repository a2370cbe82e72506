-- `text` meets its contract: each answer is told by the tests that led there (Ways). Assumes nothing.
use Rattle.std.proofs.lemmas.Result.{err_from_is_err_and}
use Rattle.binary.specs.Laws.{bits_small}
use Rattle.wiegand.proofs.Ways.{record-misfit, record-long, record-above, record-wrong, record-made}
use Rattle.std.proofs.Common.{rules}
use Rattle.wiegand.proofs.text.Goals as goal

pub returns-in_err-fits : goal.returns-in_err-fits
returns-in_err-fits c =
    let p = err_from_is_err_and c.from_residual.result c.from_residual.ensures.1 in
    rw (p.1, p.2) (record-misfit c.args.bytes.now c.args.room _ c.in_err-fits.ensures)

pub bits_of-bits-requires : goal.bits_of-bits-requires
bits_of-bits-requires c = record-long c.args.bytes.now c.args.room c.in_ok-fits.ensures

pub returns-then-above-ne0 : goal.returns-then-above-ne0
returns-then-above-ne0 c =
    record-above c.args.bytes.now c.args.room c.in_ok-fits.ensures c.bits_of-bits.ensures c.ones-above.ensures c.if-above-ne0.true

pub returns-then-not-parity_right : goal.returns-then-not-parity_right
returns-then-not-parity_right c =
    record-wrong c.args.bytes.now c.args.room c.in_ok-fits.ensures c.bits_of-bits.ensures c.ones-above.ensures c.if-above-ne0.false c.parity_right.ensures c.if-not-parity_right.true

pub characters-requires : goal.characters-requires
characters-requires c =
    let bits = c.bits_of-bits in
    (search rules, λ i. rw bits.ensures (bits_small c.args.bytes.now i))

pub returns : goal.returns
returns c =
    record-made c.args.bytes.now c.args.room c.in_ok-fits.ensures c.bits_of-bits.ensures c.ones-above.ensures c.if-above-ne0.false c.parity_right.ensures c.if-not-parity_right.false c.characters.ensures
