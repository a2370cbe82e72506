-- `decipher` meets its contract. The buffer's front is deciphered in place, and nothing behind it matters (Front, Assembly). Assumes nothing.
use mathlib.Core.Path.{refl, sym}
use Prim.Native.Nat.{◌*◌, ◌/◌}
use native.Mathlib.Omega.{arith}
use lib.Seq.{length-take-le}
use lib.ListN.{length, replicate}
use Rattle.aes.specs.Aes.{inv_aes_under}
use Rattle.final_command.proofs.Assembly.{deciphered-same}
use Rattle.final_command.proofs.decipher.Goals as goal

pub slice_bounds-copy_at-end-2 : goal.slice_bounds-copy_at-end-2
slice_bounds-copy_at-end-2 c = sym (length-take-le _ c.args.d.now (omega arith))

pub copy_at-requires : goal.copy_at-requires
copy_at-requires c =
    let d = c.args.d.now in
    omega (arith, length-take-le (16 * (length d / 16)) d (omega arith))

pub slice_bounds-decipher_under-end : goal.slice_bounds-decipher_under-end
slice_bounds-decipher_under-end c =
    let t = c.copy_at in
    let l = t.auto.d in
    sym (length-take-le _ t.new.d (omega arith))

pub returns : goal.returns
returns c =
    let a = c.args in
    let e = c.decipher_under-m in
    deciphered-same a.key.now a.d.now (replicate 240 0) _ _ (inv_aes_under a.key.now) _ a.sum _ refl c.copy_at.ensures e.ensures.0 e.ensures.1
