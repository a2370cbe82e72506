-- `card::tell` meets its contract: each way through it is a law of `Ways`. Assumes nothing.
use mathlib.Core.Path.{◌≡◌, sym, ap, ◌∙◌}
use Prim.Native.Nat.{ℕ, ◌<◌}
use native.Mathlib.Omega.{arith}
use lib.ListN.{length}
use Rattle.frame.specs.Frame.{frame_of, lc_of, data_of}
use Rattle.frame.specs.Laws.{told-ok, told-err, passed, frame_byte, command-long, data-long}
use Rattle.frame.specs.Declines.{Verdict}
use Rattle.plaid_types.specs.KeyLaws.{lawful-most}
use Rattle.card.specs.Command.{verdict_on}
use Rattle.card.specs.Ways.{by-decline, by-initial, by-final}
use Rattle.std.proofs.Common.{rules}
use Rattle.card.proofs.tell.Goals as goal

pub check-requires : goal.check-requires
check-requires c = omega (arith, c.lawful-l.ensures, lawful-most c.args.card.key_length)

pub returns-in-Err : goal.returns-in-Err
returns-in-Err c =
    let cmd = c.args.cmd.now in
    let fresh = c.args.fresh.now in
    let room = length c.args.out.now in
    let all = by-decline c.args.card c.args.interface cmd fresh c.args.out.now _ (c.in-Err.ensures ∙ ap (λ (n : ℕ). verdict_on c.args.interface n cmd fresh room) c.lawful-l.ensures) _ (told-err c.in-Err.d) c.decline.ensures in
    record { value = all.0; out_after = all.1 }

pub data_of-d-requires : goal.data_of-d-requires
data_of-d-requires c =
    let cmd = c.args.cmd.now in
    let fresh = c.args.fresh.now in
    let room = length c.args.out.now in
    let p = passed c.args.interface c.lawful-l.result (length cmd) (frame_of cmd) fresh room (sym (ap (λ (v : Verdict). v.status) c.check.ensures) ∙ told-ok c.check.result c.in_default.not-Err) in
    omega (arith, command-long cmd p.frame)

pub bounds-cmd-1 : goal.bounds-cmd-1
bounds-cmd-1 c =
    let cmd = c.args.cmd.now in
    let fresh = c.args.fresh.now in
    let room = length c.args.out.now in
    let p = passed c.args.interface c.lawful-l.result (length cmd) (frame_of cmd) fresh room (sym (ap (λ (v : Verdict). v.status) c.check.ensures) ∙ told-ok c.check.result c.in_default.not-Err) in
    omega (arith, command-long cmd p.frame)

pub run-requires : goal.run-requires
run-requires c =
    let cmd = c.args.cmd.now in
    let fresh = c.args.fresh.now in
    let room = length c.args.out.now in
    let p = passed c.args.interface c.lawful-l.result (length cmd) (frame_of cmd) fresh room (sym (ap (λ (v : Verdict). v.status) c.check.ensures) ∙ told-ok c.check.result c.in_default.not-Err) in
    let lc : lc_of (frame_of cmd) < 256 = rw (frame_byte cmd 4 (omega arith)) (c.type_inv.cmd 4).fits in
    let ld : length (data_of cmd) < 256 = rw (data-long cmd p.frame) lc in
    (rw c.data_of-d.ensures ld, p.fresh-long, p.room-enough)

pub returns-then-cmd : goal.returns-then-cmd
returns-then-cmd c =
    let cmd = c.args.cmd.now in
    let fresh = c.args.fresh.now in
    let room = length c.args.out.now in
    let ls : length c.args.card.sets ≡ 8 = search rules in
    let all = by-initial c.args.card c.args.interface cmd fresh c.args.out.now _ (c.check.ensures ∙ ap (λ (n : ℕ). verdict_on c.args.interface n cmd fresh room) c.lawful-l.ensures) _ _ _ _ (told-ok c.check.result c.in_default.not-Err) ls c.data_of-d.ensures c.if-cmd.true
    c.run.ensures.value c.run.ensures.out_after c.after_initial.ensures in
    record { value = all.0; out_after = all.1 }

pub run-requires-2 : goal.run-requires-2
run-requires-2 c =
    let cmd = c.args.cmd.now in
    let fresh = c.args.fresh.now in
    let room = length c.args.out.now in
    let p = passed c.args.interface c.lawful-l.result (length cmd) (frame_of cmd) fresh room (sym (ap (λ (v : Verdict). v.status) c.check.ensures) ∙ told-ok c.check.result c.in_default.not-Err) in
    let lc : lc_of (frame_of cmd) < 256 = rw (frame_byte cmd 4 (omega arith)) (c.type_inv.cmd 4).fits in
    let ld : length (data_of cmd) < 256 = rw (data-long cmd p.frame) lc in
    (rw c.data_of-d.ensures ld, p.fresh-long, p.room-enough)

pub returns : goal.returns
returns c =
    let cmd = c.args.cmd.now in
    let fresh = c.args.fresh.now in
    let room = length c.args.out.now in
    let all = by-final c.args.card c.args.interface cmd fresh c.args.out.now _ (c.check.ensures ∙ ap (λ (n : ℕ). verdict_on c.args.interface n cmd fresh room) c.lawful-l.ensures) _ _ _ _ (told-ok c.check.result c.in_default.not-Err) c.data_of-d.ensures c.if-cmd.false
    c.run-2.ensures.told c.run-2.ensures.bytes c.after_final.ensures in
    record { value = all.0; out_after = all.1 }
