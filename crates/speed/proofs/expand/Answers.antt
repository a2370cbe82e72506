-- `speed::expand` is safe: a key of 16, 24 or 32 bytes has its last round key below row 15. Assumes nothing.
use Rattle.std.proofs.Common.{ap, ◌∙◌, rules}
use Rattle.key_expansion.specs.KeyLength.{is_key_length, length-least, length_most}
use Rattle.speed.proofs.expand.Goals as goal

pub offset_bounds-w-last : goal.offset_bounds-w-last
offset_bounds-w-last c = search (rules, length_most _ c.requires)

pub bounds-w-last : goal.bounds-w-last
bounds-w-last c = search (rules, length_most _ c.requires)

pub expand-w-requires : goal.expand-w-requires
expand-w-requires c = ap is_key_length c.loop.invariant ∙ c.requires

pub copy_at-requires : goal.copy_at-requires
copy_at-requires c = search (rules, length-least _ c.requires, length_most _ c.requires)

pub block_at-requires : goal.block_at-requires
block_at-requires c = search (rules, length-least _ c.requires)
