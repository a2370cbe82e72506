-- `record` meets its contract: each answer is told by the tests that led there (Ways). Assumes nothing.
use Rattle.std.proofs.lemmas.Result.{err_from_is_err_and}
use Rattle.wiegand.specs.Laws.{zeros-small}
use Rattle.wiegand.specs.Wiegand.{is_bit}
use Rattle.wiegand.proofs.Ways.{text-misfit, text-long, number-found, text-made}
use Rattle.std.proofs.Common.{rules, refl}
use Rattle.wiegand.proofs.record.Goals as goal

pub returns-in_err-fits : goal.returns-in_err-fits
returns-in_err-fits c =
    let p = err_from_is_err_and c.from_residual.result c.from_residual.ensures.1 in
    rw (p.1, p.2) (text-misfit c.args.text.now c.args.room _ c.in_err-fits.ensures)

pub bits_of_text-bits-requires : goal.bits_of_text-bits-requires
bits_of_text-bits-requires c = text-long c.args.text.now c.args.room c.in_ok-fits.ensures

pub returns-in_err-fault : goal.returns-in_err-fault
returns-in_err-fault c =
    let p = err_from_is_err_and c.from_residual-in_err-fault.result c.from_residual-in_err-fault.ensures.1 in
    let good = c.each-good.ensures is_bit (λ x r h k. search rules) in
    rw (p.1, p.2)
    (number-found c.args.text.now c.args.room c.in_ok-fits.ensures good c.bits_of_text-bits.ensures c.parity_right-right.ensures c.in_err-fault.ensures)

pub bytes_of-requires : goal.bytes_of-requires
bytes_of-requires c =
    let bits = c.bits_of_text-bits in
    (search rules, λ i. rw bits.ensures (zeros-small 6 c.args.text.now i))

pub returns : goal.returns
returns c =
    let good = c.each-good.ensures is_bit (λ x r h k. search rules) in
    text-made c.args.text.now c.args.room c.in_ok-fits.ensures good c.bits_of_text-bits.ensures c.parity_right-right.ensures c.in_ok-fault.ensures refl c.bytes_of.ensures
