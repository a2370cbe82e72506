-- `byte` meets its contract. Assumes nothing.
use Rattle.std.proofs.Common.{◌≡◌, [], ◌∷◌, true, false, ◌∙◌, sym}
use Rattle.hexadecimal.specs.Hexadecimal.{digits_of}
use Rattle.printing.specs.Printing.{ascii, is_plain}
use Rattle.printing.specs.Laws.{then, then_as, shown-plain, shown-coded}
use Rattle.printing.proofs.Text.byte.Goals as goal

pub returns-then-is_plain-clause-written : goal.returns-then-is_plain-clause-written
returns-then-is_plain-clause-written g c =
    let plain : is_plain c.args.b ≡ true = sym c.is_plain.ensures ∙ c.if-is_plain.true in
    then_as c.args.self.now (sym (shown-plain c.args.b plain)) c.put.ensures

pub returns-else-is_plain-clause-written : goal.returns-else-is_plain-clause-written
returns-else-is_plain-clause-written g c =
    let plain : is_plain c.args.b ≡ false = sym c.is_plain.ensures ∙ c.if-is_plain.false in
    let t = c.args.self.now in
    then_as t (sym (shown-coded c.args.b plain)) (then t (ascii "\\x") (digits_of (c.args.b ∷ [])) c.put-else-is_plain.ensures c.hex.ensures.written)
