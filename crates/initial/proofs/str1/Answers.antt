-- `initial::str1` meets its contract: four writes one behind the other are one (`str1-writes`). Assumes nothing.
use mathlib.Core.Path.{ap, ◌∙◌}
use Prim.Native.Nat.{ℕ}
use native.Mathlib.Omega.{arith}
use Rattle.octets.specs.Lists.{over}
use Rattle.plaid_types.specs.Keys.{str1_length}
use Rattle.initial.specs.Initial.{str1}
use Rattle.initial.proofs.Writes.{str1-writes, two-bytes}
use Rattle.std.proofs.Common.{rules}
use Rattle.initial.proofs.str1.Goals as goal

pub copy_at-requires : goal.copy_at-requires
unfolding str1_length
copy_at-requires c = search rules

pub copy_at-requires-2 : goal.copy_at-requires-2
unfolding str1_length
copy_at-requires-2 c = search rules

pub copy_at-requires-3 : goal.copy_at-requires-3
unfolding str1_length
copy_at-requires-3 c = search rules

pub copy_at-requires-4 : goal.copy_at-requires-4
unfolding str1_length
copy_at-requires-4 c = search rules

pub returns : goal.returns
returns c =
    let at = c.text_at-at in
    str1-writes
    c.args.id
    c.args.div
    c.args.rnd1.now
    c.args.out.now
    at.result
    (search rules)
    (omega (arith, at.ensures, c.requires.1))
    (c.copy_at.ensures ∙ ap (over c.args.out.now at.result) (c.to_be_bytes-number.ensures ∙ two-bytes c.args.id.0 (search rules)))
    c.copy_at-2.ensures
    c.copy_at-3.ensures
    c.copy_at-4.ensures
    ∙ ap (λ (n : ℕ). over c.args.out.now n (str1 c.args.id c.args.div c.args.rnd1.now)) at.ensures
