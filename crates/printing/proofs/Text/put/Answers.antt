-- `put` meets its contract, by what `octets::copy_at` ensures. Assumes nothing.
use Rattle.std.proofs.Common.{◌+◌, ◌++◌, List, ℕ, length, take, ap, ◌∙◌, arith, length-take-le}
use Rattle.printing.specs.Laws.{take-over-end}
use Rattle.printing.proofs.Text.put.Goals as goal

pub copy_at-requires : goal.copy_at-requires
copy_at-requires g c =
    let t = c.self.inside in
    omega (arith, ap length c.self.view_is, length-take-le t.length t.bytes)

pub returns : goal.returns
returns g c =
    let t = c.self.inside in
    let text = c.args.text.now in
    ap (take (t.length + length text)) c.copy_at.ensures
    ∙ take-over-end t.bytes text t.length (omega arith)
    ∙ ap (λ (l : List ℕ). l ++ text) c.self.view_is
