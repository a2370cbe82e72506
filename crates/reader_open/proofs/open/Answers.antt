-- `open` meets its contract: what was found, or the refusal's number alone (Answers). Assumes nothing.
use Rattle.reader_open.proofs.Answers.{not-opened, opened-found}
use Rattle.reader_open.proofs.open.Goals as goal

pub handed-requires : goal.handed-requires
handed-requires c = (c.in-Ok.ensures.place.0, c.in-Ok.ensures.place.2)

pub returns-in-Ok : goal.returns-in-Ok
returns-in-Ok c =
    let a = c.args in
    opened-found a.l a.ids a.count a.blocks.now c.in-Ok.ensures.number c.in-Ok.ensures.place.3 c.handed.ensures

pub returns-in-Err : goal.returns-in-Err
returns-in-Err c =
    let a = c.args in
    not-opened a.l a.ids a.count a.blocks.now c.in-Err.r c.number.ensures c.none.ensures c.in-Err.ensures.number
