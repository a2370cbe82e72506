-- `list::parse` meets its contract: what `head`, `walk` and `ended` ensure is put into the definition. Assumes nothing.
use Rattle.std.specs.Prelude.{◌≡◌, Bool, true, false, cond, Some, Ok, Err, List, ℕ}
use Rattle.std.proofs.Common.{ap, ◌∙◌}
use Rattle.list.specs.declared.Outer.{Outer}
use Rattle.list.specs.Ber.{walked, ended, place_count, listed_from, listed}
use Rattle.list.proofs.parse.Goals as goal

chosen : (d : List ℕ) (h : Outer) (b : Bool) {e : ℕ} → b ≡ ended d h.form e → e ≡ walked d h.first (place_count d) → cond b (Ok h.first) (Err h.first) ≡ listed_from d (Some h)
chosen d h b p q = ap (λ (x : Bool). cond x (Ok h.first) (Err h.first)) (p ∙ ap (ended d h.form) q)

pub returns-in_default : goal.returns-in_default
unfolding listed
returns-in_default c = ap (listed_from c.args.d.now) c.in_default.ensures

pub returns-then-ended : goal.returns-then-ended
unfolding listed
returns-then-ended c =
    let d = c.args.d.now in
    chosen d c.in-Some.h true c.if-ended.ensures c.walk-e.ensures ∙ ap (listed_from d) c.in-Some.ensures

pub returns-else-ended : goal.returns-else-ended
unfolding listed
returns-else-ended c =
    let d = c.args.d.now in
    chosen d c.in-Some.h false c.if-ended.ensures c.walk-e.ensures ∙ ap (listed_from d) c.in-Some.ensures
