-- `list` meets its contract: the command, or the refusal's number alone (Answers). Assumes nothing.
use Rattle.reader_list.proofs.Answers.{answer-declined, command-made}
use Rattle.reader_list.proofs.list.Goals as goal

pub returns-in-Ok : goal.returns-in-Ok
returns-in-Ok c =
    let a = c.args in
    let e = c.in-Ok.ensures in
    let w = command-made a.ids a.count a.out.now e.number e.value.0 c.command-length.ensures.value c.command-length.ensures.out_after in
    record { value = w.0; out_after = w.1 }

pub returns-in-Err : goal.returns-in-Err
returns-in-Err c =
    let a = c.args in
    let w = answer-declined a.ids a.count a.out.now c.in-Err.r c.number.ensures c.in-Err.ensures.number in
    record { value = w.0; out_after = w.1 }
