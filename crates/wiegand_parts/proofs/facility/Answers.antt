-- `facility` meets its contract: the bits by the record's bytes. Assumes nothing.
use mathlib.Core.Path.{sym, ◌∙◌}
use mir.Val.{Fits}
use mir.Syntax.{w8}
use lib.ListN.{get_or}
use Rattle.wiegand_parts.specs.Laws.{facility-bytes}
use Rattle.std.proofs.Common.{rules}
use Rattle.wiegand_parts.proofs.facility.Goals as goal

pub returns : goal.returns
returns c =
    let r = c.args.four in
    let f : Fits w8 (get_or r 1 0) = search rules in
    c.eight.ensures ∙ sym (facility-bytes r (search rules) f.fits)
