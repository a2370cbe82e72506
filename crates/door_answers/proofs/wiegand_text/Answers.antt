-- `wiegand_text` meets its contract, by what `wiegand::to_record` ensures. Assumes nothing.
use mathlib.Core.Path.{ap, ◌∙◌}
use mathlib.Core.Bool.{false}
use mathlib.Core.List.{List, ◌++◌}
use Prim.Native.Nat.{ℕ, ◌≤◌}
use native.Mathlib.Omega.{arith}
use lib.ListN.{length, replicate}
use Rattle.wiegand.specs.Wiegand.{text_number, record_of}
use Rattle.hexadecimal.specs.Hexadecimal.{digits_of}
use Rattle.printing.specs.Printing.{ascii}
use Rattle.door_answers.specs.Answer.{apart, wiegand_text}
use Rattle.printing.specs.Laws.{then, then_as}
use Rattle.door_answers.specs.Ways.{number-told, result-fault, result-made, output-made}
use Rattle.door_answers.proofs.wiegand_text.Goals as goal

short : (t : List ℕ) → 4 ≤ length (record_of t)
unfolding record_of
short t = omega arith

pub returns-then-made-ne0-clause-written : goal.returns-then-made-ne0-clause-written
unfolding wiegand_text
returns-then-made-ne0-clause-written c =
    let a = c.args in
    let got = c.to_record-made in
    let told = number-told (text_number a.line.now 4) (record_of a.line.now) got.ensures.value in
    then_as a.text.now (result-fault (text_number a.line.now 4) _ false told c.if-made-ne0.true) c.fault.ensures.written

pub returns-clause-written : goal.returns-clause-written
unfolding wiegand_text
returns-clause-written c =
    let a = c.args in
    let got = c.to_record-made in
    let t = a.line.now in
    let told = number-told (text_number t 4) (record_of t) got.ensures.value in
    let made = output-made (text_number t 4) (record_of t) (replicate 4 0) told c.if-made-ne0.false (short t) got.ensures.out_after in
    let two = then a.text.now _ _ c.put.ensures c.hex.ensures.written in
    let three = then a.text.now _ _ two c.apart.ensures.written in
    then_as a.text.now (ap (λ (r : List ℕ). ascii " = record " ++ digits_of r ++ apart r) made ∙ result-made (text_number t 4) _ false told c.if-made-ne0.false) three
