-- `speed::under` is safe: a key of 16, 24 or 32 bytes has 11, 13 or 15 rows. Assumes nothing.
use Rattle.std.proofs.Common.{length, sym, rules}
use Rattle.key_expansion.specs.KeyLength.{length_most}
use Rattle.key_expansion.specs.Parts.{rows-part}
use Rattle.speed.proofs.under.Goals as goal

pub slice_bounds-rows-end : goal.slice_bounds-rows-end
slice_bounds-rows-end g c = search (rules, length_most (length c.args.key.now) c.requires)

pub slice_bounds-w-end : goal.slice_bounds-w-end
slice_bounds-w-end g c = sym (rows-part (length c.args.key.now) c.requires _ (search rules))
