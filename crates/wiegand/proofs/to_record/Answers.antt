-- `to_record` meets its contract: it answers by what `record` gives. Assumes nothing.
use native.Mathlib.Omega.{arith}
use lib.ListN.{length}
use Rattle.conversion.specs.Answers.{given-ok, answer-given}
use Rattle.wiegand.specs.Wiegand.{text_number, record_of}
use Rattle.wiegand.proofs.Ways.{text-room}
use Rattle.wiegand.proofs.to_record.Goals as goal

pub told-requires : goal.told-requires
told-requires c =
    let s = c.args.text.now in
    let room = length c.args.out.now in
    (omega arith, given-ok (text_number s room) (record_of s) c.record-made.result c.record-made.ensures (text-room s room))

pub returns : goal.returns
returns c =
    let s = c.args.text.now in
    let o = c.args.out.now in
    let w = answer-given (text_number s (length o)) (record_of s) o c.record-made.result c.record-made.ensures c.told.ensures.value c.told.ensures.out_after in
    record { value = w.0; out_after = w.1 }
