-- `hex` meets its contract, by what `hexadecimal::write_digits` ensures. Assumes nothing.
use Rattle.std.proofs.Common.{◌≡◌, ◌+◌, ◌*◌, ◌++◌, List, ℕ, length, take, ap, ◌∙◌, arith, length-take-le}
use Rattle.hexadecimal.specs.Hexadecimal.{digits_of}
use Rattle.hexadecimal.specs.Laws.{length_digits}
use Rattle.printing.specs.Laws.{take-over-end, length-then}
use Rattle.printing.proofs.Text.hex.Goals as goal

pub write_digits-requires : goal.write_digits-requires
write_digits-requires g c =
    let t = c.self.inside in
    omega (arith, ap length c.self.view_is, length-take-le t.length t.bytes)

pub returns : goal.returns
returns g c =
    let t = c.self.inside in
    let s = digits_of c.args.bytes.now in
    let end : t.length + 2 * length c.args.bytes.now ≡ t.length + length s = omega (arith, length_digits c.args.bytes.now) in
    let all =
    ap (λ (n : ℕ). take n c.write_digits.new.out) end
    ∙ ap (take (t.length + length s)) c.write_digits.ensures
    ∙ take-over-end t.bytes s t.length (omega arith)
    ∙ ap (λ (l : List ℕ). l ++ s) c.self.view_is in
    record { written = all; value = omega (arith, length-then c.args.self.now s all, length_digits c.args.bytes.now) }
