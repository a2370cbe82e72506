-- `rounds::columns_of` meets its contract: each word is four of the bytes. Assumes nothing.
use mathlib.Core.Path.{◌∙◌, sym}
use Prim.Native.Nat.{◌+◌, ◌*◌, ◌<◌}
use native.Mathlib.Omega.{arith}
use mir.Syntax.{w8}
use mir.Val.{Fits}
use lib.ListN.{get_or}
use Rattle.rounds.specs.State.{cell}
use Rattle.rounds.specs.Blocks.{eta}
use Rattle.rounds.specs.Meaning.{means}
use Rattle.std.proofs.Common.{rules}
use Rattle.rounds.proofs.columns_of.Goals as goal

pub returns : goal.returns
returns c =
    let s = c.args.s in
    means (cell s) (λ r i hr hi. let n : r + 4 * i < 16 = omega arith in let f : Fits w8 (get_or s (r + 4 * i) 0) = search rules in f.fits)
    c.word_at.ensures c.word_at-2.ensures c.word_at-3.ensures c.word_at-4.ensures
    ∙ sym (eta s (search rules))
