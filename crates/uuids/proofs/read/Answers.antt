-- `read` meets its contract: five groups of octets, one after the other (`five`). Assumes nothing.
use mathlib.Core.Path.{◌∙◌}
use lib.ListN.{replicate}
use native.Mathlib.Omega.{arith}
use Rattle.octets.specs.Lists.{part}
use Rattle.conversion.specs.Answers.{over-all}
use Rattle.hexadecimal.specs.Hexadecimal.{octets_of}
use Rattle.uuids.specs.Uuid.{record_of}
use Rattle.uuids.specs.Groups.{octets-long, group-taken, formed-true, length-record}
use Rattle.uuids.proofs.Writes.{five}
use Rattle.uuids.proofs.read.Goals as goal

pub read_digits-requires : goal.read_digits-requires
read_digits-requires c =
    let t = c.args.text.now in
    let q = group-taken t 0 8 (omega (arith, c.requires.0)) c.part_of-low.ensures (formed-true t c.requires.1).low in
    (q.0, omega (arith, q.1))

pub read_digits-requires-2 : goal.read_digits-requires-2
read_digits-requires-2 c =
    let t = c.args.text.now in
    let q = group-taken t 9 4 (omega (arith, c.requires.0)) c.part_of-mid.ensures (formed-true t c.requires.1).mid.1 in
    (q.0, omega (arith, q.1))

pub read_digits-requires-3 : goal.read_digits-requires-3
read_digits-requires-3 c =
    let t = c.args.text.now in
    let q = group-taken t 14 4 (omega (arith, c.requires.0)) c.part_of-high.ensures (formed-true t c.requires.1).high.1 in
    (q.0, omega (arith, q.1))

pub read_digits-requires-4 : goal.read_digits-requires-4
read_digits-requires-4 c =
    let t = c.args.text.now in
    let q = group-taken t 19 4 (omega (arith, c.requires.0)) c.part_of-clock.ensures (formed-true t c.requires.1).clock.1 in
    (q.0, omega (arith, q.1))

pub read_digits-requires-5 : goal.read_digits-requires-5
read_digits-requires-5 c =
    let t = c.args.text.now in
    let q = group-taken t 24 12 (omega (arith, c.requires.0)) c.part_of-node.ensures (formed-true t c.requires.1).node.1 in
    (q.0, omega (arith, q.1))

pub returns : goal.returns
unfolding record_of
returns c =
    let t = c.args.text.now in
    five octets_of octets_of (replicate 16 0) (part t 0 8) (part t 9 4) (part t 14 4) (part t 19 4) (part t 24 12) 4 6 8 10
    (octets-long t 0 8 (omega (arith, c.requires.0))) (omega (arith, octets-long t 9 4 (omega (arith, c.requires.0)))) (omega (arith, octets-long t 14 4 (omega (arith, c.requires.0)))) (omega (arith, octets-long t 19 4 (omega (arith, c.requires.0))))
    c.part_of-low.ensures c.part_of-mid.ensures c.part_of-high.ensures c.part_of-clock.ensures c.part_of-node.ensures
    c.read_digits.ensures c.read_digits-2.ensures c.read_digits-3.ensures c.read_digits-4.ensures c.read_digits-5.ensures
    ∙ over-all (replicate 16 0) (record_of t) (omega (arith, length-record t c.requires.0))
