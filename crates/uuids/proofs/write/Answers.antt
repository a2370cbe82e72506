-- `write` meets its contract: five groups of digits, one after the other (`five`). Assumes nothing.
use mathlib.Core.Path.{◌∙◌}
use lib.ListN.{replicate}
use native.Mathlib.Omega.{arith}
use Rattle.octets.specs.Lists.{part, part-long}
use Rattle.conversion.specs.Answers.{over-all}
use Rattle.hexadecimal.specs.Hexadecimal.{digits_of}
use Rattle.uuids.specs.Uuid.{behind_hyphen, text_of}
use Rattle.uuids.specs.Groups.{digits_long, length-text}
use Rattle.uuids.proofs.Writes.{five}
use Rattle.uuids.proofs.write.Goals as goal

pub write_digits-requires : goal.write_digits-requires
write_digits-requires c =
    omega (arith, part-long c.args.bytes.now _ _ (omega (arith, c.requires)) c.part_of-low.ensures)

pub write_group-requires : goal.write_group-requires
write_group-requires c =
    omega (arith, part-long c.args.bytes.now _ _ (omega (arith, c.requires)) c.part_of-mid.ensures)

pub write_group-requires-2 : goal.write_group-requires-2
write_group-requires-2 c =
    omega (arith, part-long c.args.bytes.now _ _ (omega (arith, c.requires)) c.part_of-high.ensures)

pub write_group-requires-3 : goal.write_group-requires-3
write_group-requires-3 c =
    omega (arith, part-long c.args.bytes.now _ _ (omega (arith, c.requires)) c.part_of-clock.ensures)

pub write_group-requires-4 : goal.write_group-requires-4
write_group-requires-4 c =
    omega (arith, part-long c.args.bytes.now _ _ (omega (arith, c.requires)) c.part_of-node.ensures)

pub returns : goal.returns
unfolding text_of
returns c =
    let r = c.args.bytes.now in
    five digits_of behind_hyphen (replicate 36 0) (part r 0 4) (part r 4 2) (part r 6 2) (part r 8 2) (part r 10 6) 8 13 18 23
    (digits_long r 0 4 (omega (arith, c.requires))) (omega (arith, digits_long r 4 2 (omega (arith, c.requires)))) (omega (arith, digits_long r 6 2 (omega (arith, c.requires)))) (omega (arith, digits_long r 8 2 (omega (arith, c.requires))))
    c.part_of-low.ensures c.part_of-mid.ensures c.part_of-high.ensures c.part_of-clock.ensures c.part_of-node.ensures
    c.write_digits.ensures c.write_group.ensures c.write_group-2.ensures c.write_group-3.ensures c.write_group-4.ensures
    ∙ over-all (replicate 36 0) (text_of r) (omega (arith, length-text r c.requires))
