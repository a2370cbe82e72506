-- `characters` meets its contract: the characters of i bits are there. Assumes nothing.
use mathlib.Core.Path.{sym, ap, ◌∙◌}
use lib.ListN.{drop, length-drop}
use lib.Seq.{get_or-drop}
use native.Mathlib.Omega.{arith}
use Rattle.octets.specs.Filled.{filled_more, filled-all}
use Rattle.wiegand.specs.Wiegand.{character}
use Rattle.binary.specs.Places.{map-places}
use Rattle.std.proofs.Common.{rules}
use Rattle.wiegand.proofs.characters.Goals as goal

pub loop-i-preserved : goal.loop-i-preserved
loop-i-preserved c =
    let l = c.loop-i in
    let b = c.args.bits.now in
    filled_more l.invariant (search rules) (ap character (sym (get_or-drop 6 b l.i 0)))

pub returns : goal.returns
returns c =
    let b = c.args.bits.now in
    filled-all 26 c.loop-i.invariant (search rules) (search rules) ∙ sym (map-places character 26 (drop 6 b) (omega (arith, length-drop 6 b, c.requires.0)))
