-- `reader_seal::diversified` meets its contract: the rows that are lent are the FAKey's. Assumes nothing.
use mathlib.Core.Path.{◌≡◌, sym, ap}
use native.Mathlib.Omega.{arith}
use lib.ListN.{length}
use Rattle.key_expansion.specs.KeyLength.{length_most}
use Rattle.aes.specs.Rows.{lent, length-lent}
use Rattle.std.proofs.Common.{rules}
use Rattle.reader_seal.proofs.diversified.Goals as goal

pub slice_bounds-rows-end : goal.slice_bounds-rows-end
slice_bounds-rows-end c =
    let long : length c.expand-rows.result ≡ 15 = search rules in
    omega (arith, long, length_most (length c.args.fa_key.now) c.requires)

pub slice_bounds-diversify-end : goal.slice_bounds-diversify-end
slice_bounds-diversify-end c = let k = c.args.fa_key.now in sym (length-lent k c.expand-rows.ensures)

pub diversify-d-requires : goal.diversify-d-requires
diversify-d-requires c = (c.requires, lent c.args.fa_key.now c.expand-rows.ensures)

pub returns : goal.returns
returns c = ap (λ r. r.value) c.diversify-d.ensures
