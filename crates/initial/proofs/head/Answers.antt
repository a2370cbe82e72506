-- `initial::head` meets its contract: three writes one behind the other are one (`head-writes`). Assumes nothing.
use mathlib.Core.Path.{ap, ◌∙◌}
use native.Mathlib.Omega.{arith}
use lib.ListN.{length}
use Rattle.octets.specs.Lists.{over}
use Rattle.plaid_types.specs.KeyLaws.{str1-most}
use Rattle.frame.specs.Laws.{length-pads}
use Rattle.initial.proofs.Writes.{head-writes}
use Rattle.initial.proofs.head.Goals as goal

pub copy_at-requires-2 : goal.copy_at-requires-2
copy_at-requires-2 c = omega (arith, ap length c.pad_bytes.ensures, length-pads c.args.l c.args.fresh.now c.requires.1)

pub overflow_sub-text_at : goal.overflow_sub-text_at
overflow_sub-text_at c = omega (arith, c.text_at.ensures, str1-most c.args.l c.requires.0)

pub returns : goal.returns
returns c =
    head-writes
    c.args.l
    c.args.fresh.now
    _
    c.requires.0
    c.requires.1
    c.text_at.ensures
    c.copy_at.ensures
    (c.copy_at-2.ensures ∙ ap (over _ 2) c.pad_bytes.ensures)
    c.copy_at-3.ensures
