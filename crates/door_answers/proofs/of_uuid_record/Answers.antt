-- `of_uuid_record` meets its contract, by what `uuids::to_text` ensures. Assumes nothing.
use mathlib.Core.Path.{ap, ◌∙◌}
use mathlib.Core.List.{List, ◌++◌}
use Prim.Native.Nat.{ℕ}
use native.Mathlib.Omega.{arith}
use lib.ListN.{replicate}
use mathlib.Core.Bool.{true}
use Rattle.uuids.specs.Uuid.{record_number, text_of}
use Rattle.uuids.specs.Groups.{length-text}
use Rattle.printing.specs.Printing.{ascii}
use Rattle.door_answers.specs.Answer.{of_uuid_record}
use Rattle.printing.specs.Laws.{then, then_as}
use Rattle.door_answers.specs.Ways.{number-told, result-fault, result-made, output-made}
use Rattle.std.proofs.Common.{rules}
use Rattle.door_answers.proofs.of_uuid_record.Goals as goal

pub returns-then-made-ne0-clause-written : goal.returns-then-made-ne0-clause-written
unfolding of_uuid_record
returns-then-made-ne0-clause-written c =
    let a = c.args in
    let told = number-told (record_number a.sixteen 36) (text_of a.sixteen) c.to_text-made.ensures.value in
    then_as a.text.now (result-fault (record_number a.sixteen 36) _ true told c.if-made-ne0.true) c.fault.ensures.written

pub returns-clause-written : goal.returns-clause-written
unfolding of_uuid_record
returns-clause-written c =
    let a = c.args in
    let got = c.to_text-made in
    let told = number-told (record_number a.sixteen 36) (text_of a.sixteen) got.ensures.value in
    let long = length-text a.sixteen (search rules) in
    let made = output-made (record_number a.sixteen 36) (text_of a.sixteen) (replicate 36 0) told c.if-made-ne0.false (omega (arith, long)) got.ensures.out_after in
    let two = then a.text.now _ _ c.put.ensures c.put-2.ensures in
    then_as a.text.now (ap (λ (t : List ℕ). ascii " = UUID " ++ t) made ∙ result-made (record_number a.sixteen 36) _ true told c.if-made-ne0.false) two
