-- `card::after_final` meets its contract: what it does not fill in is 0. Assumes nothing.
use Rattle.std.proofs.Common.{◌≡◌, refl, rules}
use Rattle.card.proofs.after_final.Goals as goal

pub returns : goal.returns
returns c =
    let z = c.default.result in
    let n : z.number ≡ 0 = search rules in
    let h : z.handle ≡ 0 = search rules in
    rw (n, h, c.none.ensures) refl
