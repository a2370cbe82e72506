-- `aes_runs::run_text` is safe: the key is as long as the test says, and the texts are long enough. Assumes nothing.
use Rattle.std.proofs.Common.{◌≡◌, true, sym, ◌∙◌, rules}
use Rattle.key_expansion.specs.KeyLength.{is_key_length, length_most}
use Rattle.key_expansion.specs.Parts.{key-part, key-good}
use Rattle.std.proofs.Common.{rules}
use Rattle.aes_runs.proofs.run_text.Goals as goal

pub slice_bounds-key-end : goal.slice_bounds-key-end
slice_bounds-key-end c =
    let k = c.args.k in
    let e : is_key_length k ≡ true = sym c.is_key_length.ensures ∙ c.if-not-is_key_length.false in
    search (rules, length_most k e)

pub slice_bounds-apply-end : goal.slice_bounds-apply-end
slice_bounds-apply-end c =
    let k = c.args.k in
    let e : is_key_length k ≡ true = sym c.is_key_length.ensures ∙ c.if-not-is_key_length.false in
    sym (key-part k e _ (search rules))

pub apply-requires : goal.apply-requires
apply-requires c =
    let k = c.args.k in
    let e : is_key_length k ≡ true = sym c.is_key_length.ensures ∙ c.if-not-is_key_length.false in
    key-good k e _ (search rules)
