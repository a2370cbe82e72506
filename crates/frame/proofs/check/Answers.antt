-- `check` meets its contract: each answer by the tests that led there. Assumes nothing.
use Rattle.std.proofs.Common.{sym, ap, ◌∙◌}
use borrow.Author.Tests.{eq-eqb, ne_eqb}
use Rattle.plaid_types.specs.Tries.{is_interface}
use Rattle.plaid_types.specs.TriesLaws.{interface-known}
use Rattle.refusals.specs.declared.Refusal.{Refusal}
use Rattle.frame.specs.declared.Decline.TheVariants.{Number}
use Rattle.frame.specs.Told.{decline_told}
use Rattle.frame.specs.Laws.{told-number, told-fault, says-26, says-8, says-9, says-10, says-status}
use Rattle.frame.proofs.check.Goals as goal

pub returns-in_err-try_from : goal.returns-in_err-try_from
returns-in_err-try_from c =
    let a = c.args in
    let e = c.in_err-try_from.ensures in
    told-number c.from_residual.result c.in_err-try_from.field-0.0 c.from_residual.ensures.1 ∙ ap (λ (r : Refusal). decline_told (Number r)) e.1 ∙ says-26 a.i a.l _ _ a.fresh.now a.room e.0

pub returns-then-fresh-ne-ALL : goal.returns-then-fresh-ne-ALL
returns-then-fresh-ne-ALL c =
    let a = c.args in
    let k = ap is_interface c.in_ok-try_from.ensures ∙ interface-known _ in
    says-8 a.i a.l _ _ a.fresh.now _ k (ne_eqb _ 253 c.if-fresh-ne-ALL.true)

pub returns-then-not-pads_nonzero : goal.returns-then-not-pads_nonzero
returns-then-not-pads_nonzero c =
    let a = c.args in
    let k = ap is_interface c.in_ok-try_from.ensures ∙ interface-known _ in
    says-9 a.i a.l _ _ a.fresh.now _ k (eq-eqb _ 253 c.if-fresh-ne-ALL.false) (sym c.pads_nonzero.ensures ∙ c.if-not-pads_nonzero.true)

pub returns-then-room-lt-INITIAL : goal.returns-then-room-lt-INITIAL
returns-then-room-lt-INITIAL c =
    let a = c.args in
    let k = ap is_interface c.in_ok-try_from.ensures ∙ interface-known _ in
    says-10 a.i a.l _ _ a.fresh.now a.room k (eq-eqb _ 253 c.if-fresh-ne-ALL.false) (sym c.pads_nonzero.ensures ∙ c.if-not-pads_nonzero.false) c.if-room-lt-INITIAL.true

pub returns-in_err-status : goal.returns-in_err-status
returns-in_err-status c =
    let a = c.args in
    let k = ap is_interface c.in_ok-try_from.ensures ∙ interface-known _ in
    told-fault c.from_residual-in_err-status.result c.in_err-status.field-0.0 c.from_residual-in_err-status.ensures.1
    ∙ says-status a.i a.l _ _ a.fresh.now a.room k (eq-eqb _ 253 c.if-fresh-ne-ALL.false) (sym c.pads_nonzero.ensures ∙ c.if-not-pads_nonzero.false) c.if-room-lt-INITIAL.false _ c.in_err-status.ensures

pub returns : goal.returns
returns c =
    let a = c.args in
    let k = ap is_interface c.in_ok-try_from.ensures ∙ interface-known _ in
    says-status a.i a.l _ _ a.fresh.now a.room k (eq-eqb _ 253 c.if-fresh-ne-ALL.false) (sym c.pads_nonzero.ensures ∙ c.if-not-pads_nonzero.false) c.if-room-lt-INITIAL.false _ c.in_ok-status.ensures
