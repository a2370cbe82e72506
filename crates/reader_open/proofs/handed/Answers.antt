-- `handed` meets its contract: the parts are those of the definition. Assumes nothing.
use mathlib.Core.Path.{ap, ◌∙◌}
use native.Mathlib.Omega.{arith}
use lib.ListN.{length}
use Rattle.octets.specs.Lists.{part-long}
use Rattle.plaid_types.specs.Keys.{str1_length}
use Rattle.reader_open.specs.Laws.{text-long}
use Rattle.reader_open.proofs.handed.Goals as goal

pub text_of-t-requires : goal.text_of-t-requires
text_of-t-requires c = (c.requires.0, part-long _ _ _ c.requires.1 c.part_of-b.ensures)

pub block_at-requires : goal.block_at-requires
unfolding str1_length
block_at-requires c =
    let t = ap length c.text_of-t.ensures ∙ text-long c.args.l c.requires.0 _ (part-long _ _ _ c.requires.1 c.part_of-b.ensures) in
    omega arith

pub part_of-requires : goal.part_of-requires
unfolding str1_length
part_of-requires c =
    let t = ap length c.text_of-t.ensures ∙ text-long c.args.l c.requires.0 _ (part-long _ _ _ c.requires.1 c.part_of-b.ensures) in
    omega arith

pub of-requires : goal.of-requires
unfolding str1_length
of-requires c =
    let t = ap length c.text_of-t.ensures ∙ text-long c.args.l c.requires.0 _ (part-long _ _ _ c.requires.1 c.part_of-b.ensures) in
    omega (arith, c.requires.0, part-long _ _ _ (omega arith) c.part_of.ensures)

pub returns : goal.returns
returns c = simp (c.of.ensures, c.part_of.ensures, c.block_at.ensures, c.text_of-t.ensures, c.part_of-b.ensures)
