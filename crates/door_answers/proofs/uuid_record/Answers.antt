-- `uuid_record` meets its contract, by what the digits say. Assumes nothing.
use mathlib.Core.Path.{◌≡◌, sym, ap, ◌∙◌}
use Prim.Native.Nat.{◌≤◌}
use native.Mathlib.Omega.{arith}
use lib.ListN.{length, replicate}
use mathlib.Core.Bool.{true, false}
use Rattle.conversion.specs.Conversion.{each}
use Rattle.hexadecimal.specs.Hexadecimal.{is_digit, octets_of}
use Rattle.hexadecimal.specs.Laws.{length-octets}
use Rattle.door_answers.specs.Answer.{of_uuid_record}
use Rattle.printing.specs.Laws.{then_as}
use Rattle.conversion.specs.Answers.{over-all}
use Rattle.door_answers.specs.Ways.{hexadecimal-fault, hexadecimal-read}
use Rattle.door_answers.proofs.uuid_record.Goals as goal

pub returns-then-not-are_digits-clause-written : goal.returns-then-not-are_digits-clause-written
returns-then-not-are_digits-clause-written c =
    let a = c.args in
    let digits : each is_digit a.line.now ≡ false = sym c.are_digits.ensures ∙ c.if-not-are_digits.true in
    then_as a.text.now (hexadecimal-fault a.line.now of_uuid_record digits) c.fault.ensures.written

pub read_digits-requires : goal.read_digits-requires
read_digits-requires c =
    let digits : each is_digit c.args.line.now ≡ true = sym c.are_digits.ensures ∙ c.if-not-are_digits.false in
    (digits, omega (arith, length-octets c.args.line.now, c.requires.0))

pub returns-clause-written : goal.returns-clause-written
returns-clause-written c =
    let a = c.args in
    let digits : each is_digit a.line.now ≡ true = sym c.are_digits.ensures ∙ c.if-not-are_digits.false in
    let long : 16 ≤ length (octets_of a.line.now) = omega (arith, length-octets a.line.now, c.requires.0) in
    let read = c.read_digits.ensures ∙ over-all (replicate 16 0) (octets_of a.line.now) long in
    then_as a.text.now (ap of_uuid_record read ∙ hexadecimal-read a.line.now of_uuid_record digits) c.of_uuid_record.ensures.written
