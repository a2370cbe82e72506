-- `reader_accept::accept_in` meets its contract: the record's length, or the refusal's number (`Cases`). Assumes nothing.
use Rattle.reader_accept.proofs.Cases.{declined, returned}
use Rattle.reader_accept.proofs.accept_in.Goals as goal

pub returns-in-Ok : goal.returns-in-Ok
returns-in-Ok c =
    let a = c.args in
    record {
      told = returned a.l a.keys_hash a.div_data a.record_length a.response.now a.work.now c.in-Ok.ensures.told c.in-Ok.ensures.len;
      bytes = c.in-Ok.ensures.bytes;
    }

pub returns-in-Err : goal.returns-in-Err
returns-in-Err c =
    let a = c.args in
    record {
      told = declined a.l a.keys_hash a.div_data a.record_length a.response.now a.work.now c.in-Err.r c.in-Err.ensures.told c.number.ensures;
      bytes = c.in-Err.ensures.bytes;
    }
