-- `reader_seal::Contents::write_command` meets its contract: its bytes are written one after the other (`command-writes`). Assumes nothing.
use mathlib.Core.Path.{◌≡◌, sym, ap, ◌∙◌}
use mathlib.Core.List.{List}
use Prim.Native.Nat.{ℕ, ◌+◌, ◌-◌}
use native.Mathlib.Omega.{arith}
use lib.ListN.{length}
use Rattle.octets.specs.Lists.{over}
use Rattle.reader_seal.specs.Seal.{sealed_data}
use Rattle.reader_seal.specs.Laws.{length-sealed_data, lc-most}
use Rattle.reader_seal.proofs.Writes.{put-over, command-writes}
use Rattle.std.proofs.Common.{rules}
use Rattle.reader_seal.proofs.Contents.write_command.Goals as goal

pub overflow_cast-head : goal.overflow_cast-head
overflow_cast-head c = search (rules, lc-most _ _ c.args.self.key_length c.requires.0)

pub returns : goal.returns
returns c =
    let a = c.args in
    let s = a.self in
    let l : ℕ = length s.key.now in
    let d : List ℕ = sealed_data l s.key.now s.mode s.rnd2.now s.payload.now s.hash.now in
    let long : length d ≡ a.lc = length-sealed_data l s.key.now s.mode s.rnd2.now s.payload.now s.hash.now ∙ sym c.requires.1 in
    let m : a.lc ≡ 5 + a.lc - 5 = omega arith in
    let w = c.write_data.ensures in
    command-writes
    a.lc
    d
    a.out.now
    long
    c.copy_at.ensures
    (put-over _ _ 5 (5 + a.lc - 5) (ap length {y = d} w ∙ long ∙ m) ∙ ap (over _ 5) {y = d} w)
    c.copy_at-2.ensures
