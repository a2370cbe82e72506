-- `key_expansion::temp` meets its contract, test by test. Assumes nothing.
use mathlib.Core.Path.{sym, ◌∙◌}
use native.Mathlib.Omega.{arith}
use Rattle.key_expansion.specs.Schedule.{bytes_in}
use Rattle.key_expansion.specs.WordLaws.{bytes-sub, bytes-rot-sub, temp-first, temp-fourth, temp-other}
use Rattle.std.proofs.Common.{rules}
use Rattle.key_expansion.proofs.temp.Goals as goal

pub returns-then-j-eq0 : goal.returns-then-j-eq0
returns-then-j-eq0 c =
    let a = c.args in
    bytes-rot-sub a.t a.table.now.entries a.table.now.ruled a.x c.rot_sub.result (search rules) c.rot_sub.ensures
    ∙ sym (temp-first a.nk a.j a.x (bytes_in a.t) c.if-j-eq0.true)

pub returns-then-j-eq4 : goal.returns-then-j-eq4
returns-then-j-eq4 c =
    let a = c.args in
    bytes-sub a.t a.table.now.entries a.table.now.ruled c.looked_up.result c.looked_up.ensures
    ∙ sym (temp-fourth a.nk a.j a.x (bytes_in a.t) c.if-nk-gt6.true c.if-j-eq4.true)

pub returns-else-j-eq4 : goal.returns-else-j-eq4
returns-else-j-eq4 c = sym (temp-other _ _ _ _ c.if-j-eq0.false (λ _ e. c.if-j-eq4.false e))

pub returns-else-nk-gt6 : goal.returns-else-nk-gt6
returns-else-nk-gt6 c = let l = c.if-nk-gt6.false in sym (temp-other _ _ _ _ c.if-j-eq0.false (λ h _. omega arith))
