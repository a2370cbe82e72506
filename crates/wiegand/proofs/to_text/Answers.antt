-- `to_text` meets its contract: it answers by what `text` gives. Assumes nothing.
use native.Mathlib.Omega.{arith}
use lib.ListN.{length}
use Rattle.conversion.specs.Answers.{given-ok, answer-given}
use Rattle.wiegand.specs.Wiegand.{record_number, text_of}
use Rattle.wiegand.proofs.Ways.{record-room}
use Rattle.wiegand.proofs.to_text.Goals as goal

pub told-requires : goal.told-requires
told-requires c =
    let s = c.args.bytes.now in
    let room = length c.args.out.now in
    (omega arith, given-ok (record_number s room) (text_of s) c.text-made.result c.text-made.ensures (record-room s room))

pub returns : goal.returns
returns c =
    let s = c.args.bytes.now in
    let o = c.args.out.now in
    let w = answer-given (record_number s (length o)) (text_of s) o c.text-made.result c.text-made.ensures c.told.ensures.value c.told.ensures.out_after in
    record { value = w.0; out_after = w.1 }
