-- `open_text` meets its contract: each value from those before it (Assembly). Assumes nothing.
use mathlib.Core.Path.{◌≡◌, sym, ap, ◌∙◌}
use native.Mathlib.Omega.{arith}
use lib.ListN.{length}
use Rattle.plaid_types.specs.KeyLaws.{lawful-most}
use Rattle.final_command.proofs.Keys.{first-within, length-first, first-lawful}
use Rattle.final_command.proofs.Counts.{div-expansions}
use Rattle.final_command.proofs.Assembly.{opened-same}
use Rattle.std.proofs.Common.{rules}
use Rattle.final_command.proofs.open_text.Goals as goal

pub slice_bounds-held-end : goal.slice_bounds-held-end
slice_bounds-held-end c =
    let long : length c.fa_key-held.result ≡ 32 = search (rules, c.fa_key-held.type_inv) in
    first-within c.args.card.key_length c.fa_key-held.result c.lawful-l.ensures long

pub slice_bounds-fa-end : goal.slice_bounds-fa-end
slice_bounds-fa-end c =
    let long : length c.fa_key-held.result ≡ 32 = search (rules, c.fa_key-held.type_inv) in
    sym (length-first c.args.card.key_length c.fa_key-held.result c.lawful-l.ensures long)

pub diversify-k-requires : goal.diversify-k-requires
diversify-k-requires c =
    let long : length c.fa_key-held.result ≡ 32 = search (rules, c.fa_key-held.type_inv) in
    first-lawful c.args.card.key_length c.fa_key-held.result c.lawful-l.ensures long

pub slice_bounds-long-end : goal.slice_bounds-long-end
slice_bounds-long-end c =
    let long : length c.diversify-k.result.key ≡ 32 = search (rules, c.diversify-k.type_inv) in
    first-within c.args.card.key_length c.diversify-k.result.key c.lawful-l.ensures long

pub slice_bounds-key-end : goal.slice_bounds-key-end
slice_bounds-key-end c =
    let long : length c.diversify-k.result.key ≡ 32 = search (rules, c.diversify-k.type_inv) in
    sym (length-first c.args.card.key_length c.diversify-k.result.key c.lawful-l.ensures long)

pub expand-e-requires : goal.expand-e-requires
expand-e-requires c =
    let long : length c.diversify-k.result.key ≡ 32 = search (rules, c.diversify-k.type_inv) in
    first-lawful c.args.card.key_length c.diversify-k.result.key c.lawful-l.ensures long

pub decipher-t-requires : goal.decipher-t-requires
decipher-t-requires c =
    let long : length c.diversify-k.result.key ≡ 32 = search (rules, c.diversify-k.type_inv) in
    (first-lawful c.args.card.key_length c.diversify-k.result.key c.lawful-l.ensures long, ap (λ r. r.value) c.expand-e.ensures, c.requires)

pub slice_bounds-rnd1-end : goal.slice_bounds-rnd1-end
slice_bounds-rnd1-end c =
    let long : length c.choose-rnd1.result ≡ 32 = search (rules, c.choose-rnd1.type_inv) in
    first-within c.args.card.key_length c.choose-rnd1.result c.lawful-l.ensures long

pub slice_bounds-hashed-end : goal.slice_bounds-hashed-end
slice_bounds-hashed-end c =
    let long : length c.choose-rnd1.result ≡ 32 = search (rules, c.choose-rnd1.type_inv) in
    sym (length-first c.args.card.key_length c.choose-rnd1.result c.lawful-l.ensures long)

pub hashed-h-requires : goal.hashed-h-requires
hashed-h-requires c =
    let t = c.decipher-t in
    let n = c.args.card.key_length in
    let long : length c.choose-rnd1.result ≡ 32 = search (rules, c.choose-rnd1.type_inv) in
    let text : length t.result.value ≡ 240 = search (rules, t.type_inv) in
    let e = length-first n c.choose-rnd1.result c.lawful-l.ensures long in
    (omega (arith, e, c.lawful-l.ensures, lawful-most n), omega (arith, e, c.lawful-l.ensures, lawful-most n))

pub overflow_add-result : goal.overflow_add-result
overflow_add-result c =
    let n : c.diversify-k.result.expansions ≡ 1 = ap (λ r. r.expansions) c.diversify-k.ensures ∙ div-expansions _ _ in
    omega (arith, ap (λ r. r.count) c.expand-e.ensures)

pub returns : goal.returns
returns c =
    let a = c.args in
    let lf : length c.fa_key-held.result ≡ 32 = search (rules, c.fa_key-held.type_inv) in
    let lr : length c.choose-rnd1.result ≡ 32 = search (rules, c.choose-rnd1.type_inv) in
    opened-same a.card a.d.now _ _ _ _ _ _ _ c.lawful-l.ensures lf lr c.fa_key-held.ensures c.diversify-k.ensures c.expand-e.ensures c.decipher-t.ensures c.choose-rnd1.ensures c.hashed-h.ensures
