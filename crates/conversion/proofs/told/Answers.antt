-- `told` meets its contract: what `done` and `declined` return. Assumes nothing.
use Rattle.std.proofs.Common.{◌≡◌, ℕ, ◌≤◌, List, length, sym, ap, ◌∙◌, arith, rules}
use Rattle.std.proofs.lemmas.Result.{IfOk-at_ok}
use Rattle.conversion.specs.Told.{told}
use Rattle.conversion.proofs.told.Goals as goal

pub returns-in-Ok-clause-value : goal.returns-in-Ok-clause-value
returns-in-Ok-clause-value g c = c.done.ensures.value ∙ sym (ap told c.in-Ok.is)

pub returns-in-Err-clause-value : goal.returns-in-Err-clause-value
returns-in-Err-clause-value g c = c.declined.ensures ∙ ap (λ (n : ℕ). record { number = n; length = 0 }) c.number.ensures ∙ sym (ap told c.in-Err.is)

pub done-requires : goal.done-requires
done-requires g c =
    let long : g.row.N ≡ length c.in-Ok.res = search rules in
    let room = IfOk-at_ok (λ (res : List ℕ). g.row.N ≤ length c.args.out.now) c.in-Ok.is c.requires in
    omega (arith, long, room)
