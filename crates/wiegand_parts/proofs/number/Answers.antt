-- `number` meets its contract: the bits by the record's bytes. Assumes nothing.
use mathlib.Core.Path.{sym, ap₂, ◌∙◌}
use Prim.Native.Nat.{ℕ, ◌+◌, ◌*◌}
use mir.Val.{Fits}
use mir.Syntax.{w8}
use lib.ListN.{get_or}
use Rattle.wiegand_parts.specs.Laws.{number-bytes}
use Rattle.std.proofs.Common.{rules}
use Rattle.wiegand_parts.proofs.number.Goals as goal

pub returns : goal.returns
returns c =
    let r = c.args.four in
    let low : Fits w8 (get_or r 2 0) = search rules in
    let last : Fits w8 (get_or r 3 0) = search rules in
    c.word.ensures
    ∙ ap₂ (λ (x y : ℕ). x * 256 + y) c.eight.ensures c.eight-2.ensures
    ∙ sym (number-bytes r (search rules) low.fits last.fits)
