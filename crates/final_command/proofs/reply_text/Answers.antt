-- `reply_text` meets its contract. The record has at most 64 bytes, so that it, its payload, DivData and padding fit the buffer (Within). Assumes
-- nothing.
use mathlib.Core.Path.{◌≡◌, refl, sym, ap}
use Prim.Native.Nat.{ℕ, ◌*◌}
use native.Mathlib.Omega.{arith}
use lib.ListN.{length, replicate, length-take}
use lib.Seq.{length-take-le}
use Rattle.octets.specs.Writes.{zeros_of}
use Rattle.final_command.specs.Parts.{buffer_of}
use Rattle.final_command.proofs.Within.{source-most, record-long, text-accepted, text-fresh}
use Rattle.final_command.proofs.reply_text.Goals as goal

pub copy_at-requires : goal.copy_at-requires
copy_at-requires c =
    let a = c.args in
    omega (arith, ap length c.source-s.ensures, source-most a.accepted a.area a.fresh.now a.mode (16 * a.size) (omega arith))

pub payload_length-k-requires : goal.payload_length-k-requires
payload_length-k-requires c =
    let a = c.args in
    (record-long a.accepted a.area a.fresh.now _ a.mode (16 * a.size) c.if-accepted.true c.source-s.ensures, omega arith)

pub slice_bounds-zeros-end : goal.slice_bounds-zeros-end
slice_bounds-zeros-end c = omega (arith, c.payload_length-k.ensures)

pub slice_bounds-payload-end : goal.slice_bounds-payload-end
slice_bounds-payload-end c = sym (length-take-le _ _ (omega (arith, c.payload_length-k.ensures)))

pub copy_at-requires-then-accepted : goal.copy_at-requires-then-accepted
copy_at-requires-then-accepted c =
    let a = c.args in
    omega (arith, c.payload_length-k.ensures, length-take {A = ℕ} c.payload_length-k.result (replicate 64 0), record-long a.accepted a.area a.fresh.now _ a.mode (16 * a.size) c.if-accepted.true c.source-s.ensures)

pub copy_at-requires-then-accepted-2 : goal.copy_at-requires-then-accepted-2
copy_at-requires-then-accepted-2 c =
    let a = c.args in
    let l : length a.div ≡ 16 = omega arith in
    omega (arith, c.payload_length-k.ensures, record-long a.accepted a.area a.fresh.now _ a.mode (16 * a.size) c.if-accepted.true c.source-s.ensures)

pub returns-then-accepted : goal.returns-then-accepted
unfolding buffer_of
returns-then-accepted c =
    let a = c.args in
    let l : length a.div ≡ 16 = omega arith in
    text-accepted a.accepted a.area a.fresh.now a.div (replicate 96 0) _ _ _ _ _ _ a.mode a.size _ c.if-accepted.true c.source-s.ensures (omega arith)
    c.payload_length-k.ensures (zeros_of 64 c.payload_length-k.result (omega (arith, c.payload_length-k.ensures))) c.copy_at.ensures c.copy_at-then-accepted.ensures
    c.copy_at-then-accepted-2.ensures c.pad.ensures.bytes refl l

pub returns : goal.returns
unfolding buffer_of
returns c =
    let a = c.args in
    text-fresh a.accepted a.area a.fresh.now a.div (replicate 96 0) _ _ a.mode a.size c.if-accepted.false c.source-s.ensures c.copy_at.ensures
