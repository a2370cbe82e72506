-- `sealed` meets its contract. Unpadding answers a text exactly where it is rightly padded (Verdict). Assumes nothing.
use mathlib.Core.Bool.{◌&&◌}
use mathlib.Core.Path.{sym, ap, ◌∙◌}
use Rattle.final_command.proofs.Verdict.{text-judged, malformed-judged, text-within}
use Rattle.final_command.proofs.sealed.Goals as goal

pub ends_with-requires : goal.ends_with-requires
ends_with-requires c =
    (text-within c.args.s.now _ (sym c.in-Some.ensures), c.requires)

pub returns-in-Some : goal.returns-in-Some
returns-in-Some c =
    let a = c.args in
    c.both.ensures ∙ ap (λ x. x && a.held) c.ends_with.ensures ∙ text-judged a.s.now a.hash.now a.held _ (sym c.in-Some.ensures)

pub returns-in-None : goal.returns-in-None
returns-in-None c = malformed-judged c.args.s.now _ (sym c.in-None.ensures)
