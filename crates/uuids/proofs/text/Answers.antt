-- `text` meets its contract: each answer is told by the test that led there (Numbers). Assumes nothing.
use Rattle.std.proofs.lemmas.Result.{err_from_is_err_and}
use Rattle.uuids.specs.Numbers.{record-misfit, record-taken, record-shown}
use Rattle.uuids.proofs.text.Goals as goal

pub returns-in_err-fits : goal.returns-in_err-fits
returns-in_err-fits c =
    let p = err_from_is_err_and c.from_residual.result c.from_residual.ensures.1 in
    rw (p.1, p.2) (record-misfit c.args.bytes.now c.args.room _ c.in_err-fits.ensures)

pub write-requires : goal.write-requires
write-requires c =
    let r = c.args.bytes.now in
    (record-shown r c.args.room (record-taken r c.args.room c.in_ok-fits.ensures)).0

pub returns : goal.returns
returns c = (record-taken c.args.bytes.now c.args.room c.in_ok-fits.ensures, c.write.ensures)
