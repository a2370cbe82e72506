-- `card::after_initial` meets its contract: what it does not fill in is 0. Assumes nothing.
use Rattle.std.proofs.Common.{◌≡◌, refl, rules}
use Rattle.card.proofs.after_initial.Goals as goal

pub returns : goal.returns
returns c =
    let z = c.default.result in
    let n : z.number ≡ 0 = search rules in
    let d : z.decipherments ≡ 0 = search rules in
    let e : z.encipherments ≡ 0 = search rules in
    let x : z.expansions ≡ 0 = search rules in
    let h : z.hash_blocks ≡ 0 = search rules in
    rw (n, d, e, x, h) refl
