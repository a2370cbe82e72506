-- `source` meets its contract. The record's part is cut to what the area has (Within). Assumes nothing.
use mathlib.Core.Bool.{Bool, cond}
use mathlib.Core.Path.{sym, ap, ◌∙◌}
use Rattle.octets.specs.Lists.{part}
use Rattle.final_command.specs.Final.{record_of}
use Rattle.final_command.proofs.Within.{record-within, min-least}
use Rattle.final_command.proofs.source.Goals as goal

pub returns-then-accepted : goal.returns-then-accepted
returns-then-accepted c =
    let a = c.args in
    record-within a.area.now a.mode _ _ _ (c.min-a.ensures ∙ min-least _ _) (c.min-most.ensures ∙ min-least _ _) (c.min.ensures ∙ min-least _ _)
    ∙ sym (ap (λ (t : Bool). cond t (record_of a.area.now a.mode) (part a.fresh.now 0 a.n)) c.if-accepted.true)

pub returns : goal.returns
unfolding part
returns c =
    let a = c.args in
    sym (ap (λ (t : Bool). cond t (record_of a.area.now a.mode) (part a.fresh.now 0 a.n)) c.if-accepted.false)
