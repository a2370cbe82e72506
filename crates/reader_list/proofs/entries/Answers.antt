-- `entries` meets its contract. The loop's invariant: i entries are written (Writes). Assumes nothing.
use mathlib.Core.Path.{refl, sym, ap, ◌∙◌}
use Prim.Native.Nat.{◌+◌, ◌*◌}
use lib.ListN.{get_or}
use native.Mathlib.Omega.{arith}
use Rattle.octets.specs.Lists.{over, over_none}
use Rattle.list.specs.Encoding.{short_entries}
use Rattle.reader_list.proofs.Writes.{entry-made, entries-turn}
use Rattle.std.proofs.Common.{rules}
use Rattle.reader_list.proofs.entries.Goals as goal

pub loop-i-init : goal.loop-i-init
unfolding short_entries
loop-i-init c = (refl, sym (over_none _ 7))

pub loop-i-preserved : goal.loop-i-preserved
loop-i-preserved c =
    let q = c.loop-i in
    let k = get_or c.args.ids.now q.i 0 in
    let e = c.copy_at.ensures ∙ ap (over q.out (7 + 4 * q.i)) (entry-made k (c.type_inv.ids q.i).fits c.to_be_bytes.ensures) in
    (search rules, entries-turn c.args.out.now c.args.ids.now q.i (search rules) (omega (arith, c.requires)) q.invariant.1 e)
