-- `speed::show_expand` is safe: the key is as long as the test says. Assumes nothing.
use Rattle.std.proofs.Common.{◌≡◌, true, sym, ◌∙◌, rules}
use Rattle.key_expansion.specs.KeyLength.{is_key_length, length_most}
use Rattle.key_expansion.specs.Parts.{key-part, key-good}
use Rattle.speed.proofs.show_expand.Goals as goal

pub slice_bounds-key-end : goal.slice_bounds-key-end
slice_bounds-key-end g c =
    let e : is_key_length c.unwrap_or-n.result ≡ true = sym c.is_key_length.ensures ∙ c.if-not-is_key_length.false in
    search (rules, length_most c.unwrap_or-n.result e)

pub slice_bounds-expand-end : goal.slice_bounds-expand-end
slice_bounds-expand-end g c =
    let e : is_key_length c.unwrap_or-n.result ≡ true = sym c.is_key_length.ensures ∙ c.if-not-is_key_length.false in
    sym (key-part c.unwrap_or-n.result e _ (search rules))

pub expand-requires : goal.expand-requires
expand-requires g c =
    let e : is_key_length c.unwrap_or-n.result ≡ true = sym c.is_key_length.ensures ∙ c.if-not-is_key_length.false in
    key-good c.unwrap_or-n.result e _ (search rules)
