-- `diversify` meets its contract: one expansion, and the encipherments that follow it (Assembly). Assumes nothing.
use mathlib.Core.Path.{◌≡◌, sym, ap}
use native.Mathlib.Omega.{arith}
use lib.ListN.{length}
use lib.Seq.{length-take-le}
use Rattle.key_expansion.specs.KeyLength.{length_most}
use Rattle.aes.specs.Rows.{lent}
use Rattle.final_command.proofs.Assembly.{derived-same}
use Rattle.std.proofs.Common.{rules}
use Rattle.final_command.proofs.diversify.Goals as goal

pub slice_bounds-rows-end : goal.slice_bounds-rows-end
slice_bounds-rows-end c =
    let long : length c.expand-e.result.value ≡ 15 = search (rules, c.expand-e.type_inv) in
    omega (arith, length_most _ c.requires)

pub slice_bounds-diversify-end : goal.slice_bounds-diversify-end
slice_bounds-diversify-end c =
    let long : length c.expand-e.result.value ≡ 15 = search (rules, c.expand-e.type_inv) in
    sym (length-take-le _ c.expand-e.result.value (omega (arith, length_most _ c.requires)))

pub diversify-k-requires : goal.diversify-k-requires
diversify-k-requires c =
    (c.requires, lent c.args.fa.now (ap (λ r. r.value) c.expand-e.ensures))

pub returns : goal.returns
returns c =
    let a = c.args in
    derived-same a.fa.now a.div a.sum _ _ c.expand-e.ensures c.diversify-k.ensures
