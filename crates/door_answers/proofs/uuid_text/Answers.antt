-- `uuid_text` meets its contract, by what `uuids::to_record` ensures. Assumes nothing.
use mathlib.Core.Path.{ap, ◌∙◌}
use mathlib.Core.List.{List, ◌++◌}
use Prim.Native.Nat.{ℕ}
use native.Mathlib.Omega.{arith}
use lib.ListN.{replicate}
use mathlib.Core.Bool.{false}
use Rattle.hexadecimal.specs.Hexadecimal.{digits_of}
use Rattle.uuids.specs.Uuid.{text_number, record_of}
use Rattle.uuids.specs.Groups.{length-record}
use Rattle.printing.specs.Printing.{ascii}
use Rattle.door_answers.specs.Answer.{uuid_text}
use Rattle.printing.specs.Laws.{then, then_as}
use Rattle.door_answers.specs.Ways.{number-told, result-fault, result-made, output-made}
use Rattle.door_answers.proofs.uuid_text.Goals as goal

pub returns-then-made-ne0-clause-written : goal.returns-then-made-ne0-clause-written
unfolding uuid_text
returns-then-made-ne0-clause-written c =
    let a = c.args in
    let told = number-told (text_number a.line.now 16) (record_of a.line.now) c.to_record-made.ensures.value in
    then_as a.text.now (result-fault (text_number a.line.now 16) _ false told c.if-made-ne0.true) c.fault.ensures.written

pub returns-clause-written : goal.returns-clause-written
unfolding uuid_text
returns-clause-written c =
    let a = c.args in
    let t = a.line.now in
    let got = c.to_record-made in
    let told = number-told (text_number t 16) (record_of t) got.ensures.value in
    let long = length-record t c.requires.0 in
    let made = output-made (text_number t 16) (record_of t) (replicate 16 0) told c.if-made-ne0.false (omega (arith, long)) got.ensures.out_after in
    let two = then a.text.now _ _ c.put.ensures c.hex.ensures.written in
    then_as a.text.now (ap (λ (r : List ℕ). ascii " = record " ++ digits_of r) made ∙ result-made (text_number t 16) _ false told c.if-made-ne0.false) two
