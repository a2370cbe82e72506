-- `record` meets its contract: each answer is told by the tests that led there (Numbers). Assumes nothing.
use mathlib.Core.Path.{sym, ◌∙◌}
use lib.ListN.{length}
use Rattle.std.proofs.lemmas.Result.{err_from_is_err_and}
use Rattle.conversion.specs.Answers.{fits}
use Rattle.uuids.specs.Numbers.{text-misfit, text-fits, text-bad, text-taken}
use Rattle.uuids.proofs.record.Goals as goal

pub returns-in_err-fits : goal.returns-in_err-fits
returns-in_err-fits c =
    let p = err_from_is_err_and c.from_residual.result c.from_residual.ensures.1 in
    rw (p.1, p.2) (text-misfit c.args.text.now c.args.room _ c.in_err-fits.ensures)

pub formed-requires : goal.formed-requires
formed-requires c =
    let t = c.args.text.now in
    (fits (length t) 36 c.args.room 16 (text-fits t c.args.room c.in_ok-fits.ensures)).0

pub returns-then-not-formed : goal.returns-then-not-formed
returns-then-not-formed c =
    let t = c.args.text.now in
    text-bad t c.args.room (text-fits t c.args.room c.in_ok-fits.ensures) (sym c.formed.ensures ∙ c.if-not-formed.true)

pub read-requires : goal.read-requires
read-requires c =
    let t = c.args.text.now in
    ((fits (length t) 36 c.args.room 16 (text-fits t c.args.room c.in_ok-fits.ensures)).0, sym c.formed.ensures ∙ c.if-not-formed.false)

pub returns : goal.returns
returns c =
    let t = c.args.text.now in
    (text-taken t c.args.room (text-fits t c.args.room c.in_ok-fits.ensures) (sym c.formed.ensures ∙ c.if-not-formed.false), c.read.ensures)
