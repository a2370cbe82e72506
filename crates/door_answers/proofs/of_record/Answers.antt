-- `of_record` meets its contract, by what `wiegand::to_text` ensures. Assumes nothing.
use mathlib.Core.Path.{ap, ◌∙◌}
use mathlib.Core.List.{List, ◌++◌}
use Prim.Native.Nat.{ℕ}
use native.Mathlib.Omega.{arith}
use lib.ListN.{replicate}
use mathlib.Core.Bool.{true}
use Rattle.wiegand.specs.Wiegand.{record_number, text_of}
use Rattle.printing.specs.Printing.{ascii}
use Rattle.door_answers.specs.Answer.{apart, of_record}
use Rattle.printing.specs.Laws.{then, then_as}
use Rattle.door_answers.specs.Ways.{number-told, result-fault, result-made, output-made, length-letters}
use Rattle.std.proofs.Common.{rules}
use Rattle.door_answers.proofs.of_record.Goals as goal

pub returns-then-made-ne0-clause-written : goal.returns-then-made-ne0-clause-written
unfolding of_record
returns-then-made-ne0-clause-written c =
    let a = c.args in
    let told = number-told (record_number a.four 26) (text_of a.four) c.to_text-made.ensures.value in
    then_as a.text.now (result-fault (record_number a.four 26) _ true told c.if-made-ne0.true) c.fault.ensures.written

pub returns-clause-written : goal.returns-clause-written
unfolding of_record
returns-clause-written c =
    let a = c.args in
    let got = c.to_text-made in
    let told = number-told (record_number a.four 26) (text_of a.four) got.ensures.value in
    let long = length-letters a.four (search rules) in
    let made = output-made (record_number a.four 26) (text_of a.four) (replicate 26 0) told c.if-made-ne0.false (omega (arith, long)) got.ensures.out_after in
    let two = then a.text.now _ _ c.put.ensures c.put-2.ensures in
    let three = then a.text.now _ _ two c.apart.ensures.written in
    then_as a.text.now (ap (λ (t : List ℕ). ascii " = Wiegand " ++ t ++ apart a.four) made ∙ result-made (record_number a.four 26) _ true told c.if-made-ne0.false) three
