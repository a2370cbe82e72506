-- `hashed` meets its contract: the two parts, one behind the other, are the front of the buffer. Assumes nothing.
use mathlib.Core.List.{List}
use mathlib.Core.Path.{◌≡◌, refl, sym, ap, ◌∙◌}
use Prim.Native.Nat.{ℕ, ◌+◌, ◌*◌}
use native.Mathlib.Omega.{arith}
use lib.ListN.{length, replicate}
use lib.Seq.{length-take-le}
use Rattle.octets.specs.Lists.{part, part-long, length_part}
use Rattle.final_command.specs.Parts.{hashing}
use Rattle.final_command.proofs.Buffers.{front-both}
use Rattle.final_command.proofs.hashed.Goals as goal

pub copy_at-requires-2 : goal.copy_at-requires-2
copy_at-requires-2 c =
    omega (arith, part-long c.args.text.now 2 (length c.args.rnd1.now) c.requires.1 c.part_of-rnd2.ensures, c.requires.0)

pub slice_bounds-hash-end : goal.slice_bounds-hash-end
slice_bounds-hash-end c =
    let m = c.copy_at-2 in
    let t : length m.new.d ≡ 64 = m.auto.d ∙ c.copy_at.auto.d in
    sym (length-take-le _ m.new.d (omega arith))

pub returns : goal.returns
returns c =
    let rnd1 = c.args.rnd1.now in
    let rnd2 : List ℕ = part c.args.text.now 2 (length rnd1) in
    let n : length rnd1 + length rnd2 ≡ 2 * length rnd1 = omega (arith, length_part c.args.text.now 2 (length rnd1) c.requires.1) in
    c.hash.ensures
    ∙ ap (λ (b : List ℕ). hashing b c.args.sum) (front-both (replicate 64 0) rnd1 rnd2 (length rnd1) (2 * length rnd1) refl n c.copy_at.ensures c.part_of-rnd2.ensures c.copy_at-2.ensures)
