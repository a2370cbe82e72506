-- `agrees` meets its contract: what the calls ensure is put into the definition. Assumes nothing.
use mathlib.Core.Path.{sym, ap, ap₂, ◌∙◌}
use mathlib.Core.Bool.{◌&&◌}
use native.Mathlib.Omega.{arith}
use lib.Dec.{eqb}
use Rattle.octets.specs.Bytes.{same}
use Rattle.octets.specs.Lists.{part-long}
use Rattle.plaid_types.specs.Keys.{str1_length}
use Rattle.plaid_types.specs.declared.KeySetId.{KeySetId}
use Rattle.reader_open.specs.Open.{agrees}
use Rattle.std.proofs.Common.{rules}
use Rattle.reader_open.proofs.agrees.Goals as goal

pub part_of-requires : goal.part_of-requires
unfolding str1_length
part_of-requires c = search rules

pub part_of-requires-2 : goal.part_of-requires-2
unfolding str1_length
part_of-requires-2 c = search rules

pub equal-twice-requires : goal.equal-twice-requires
unfolding str1_length
equal-twice-requires c =
    part-long _ _ _ (omega (arith, c.requires.1)) c.part_of.ensures ∙ sym (part-long _ _ _ (omega (arith, c.requires.1)) c.part_of-2.ensures)

pub id_of-k-requires : goal.id_of-k-requires
unfolding str1_length
id_of-k-requires c = search rules

pub returns : goal.returns
unfolding agrees
returns c =
    c.both.ensures
    ∙ ap₂ (λ x y. x && y) (ap (λ (x : KeySetId). eqb x.0 c.args.id.0) c.id_of-k.ensures)
    (c.equal-twice.ensures ∙ ap₂ same c.part_of.ensures c.part_of-2.ensures)
