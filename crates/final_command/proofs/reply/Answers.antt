-- `reply` meets its contract. The buffer's front is enciphered in place and sent (Assembly). Assumes nothing.
use mathlib.Core.List.{List}
use mathlib.Core.Path.{◌≡◌, refl, sym, ap, ◌∙◌}
use Prim.Native.Nat.{ℕ, ◌*◌, ◌≤◌, min}
use native.Mathlib.Omega.{arith}
use lib.Seq.{length-take-le}
use lib.ListN.{length}
use Rattle.plaid_types.specs.Keys.{key_length_of, held}
use Rattle.final_command.specs.Parts.{buffer_of}
use Rattle.final_command.specs.Final.{size_of, reply_text}
use Rattle.final_command.proofs.Buffers.{front-within, front-count, front_fits}
use Rattle.final_command.proofs.Keys.{first-held, first-within, length-first, first-lawful}
use Rattle.final_command.proofs.Within.{min-least}
use Rattle.final_command.proofs.Assembly.{sent-same, bytes_same}
use Rattle.std.proofs.Common.{rules}
use Rattle.final_command.proofs.reply.Goals as goal

size_most : {n : ℕ} (m : ℕ) → n ≡ min m 6 → n ≤ 6
size_most m e = omega arith

pub slice_bounds-chosen-end : goal.slice_bounds-chosen-end
slice_bounds-chosen-end c =
    let long : length c.choose-chosen.result ≡ 32 = search (rules, c.choose-chosen.type_inv) in
    first-within c.args.card.key_length c.choose-chosen.result c.lawful-l.ensures long

pub slice_bounds-key-end : goal.slice_bounds-key-end
slice_bounds-key-end c =
    let long : length c.choose-chosen.result ≡ 32 = search (rules, c.choose-chosen.type_inv) in
    sym (length-first c.args.card.key_length c.choose-chosen.result c.lawful-l.ensures long)

pub expand-e-requires : goal.expand-e-requires
expand-e-requires c =
    let long : length c.choose-chosen.result ≡ 32 = search (rules, c.choose-chosen.type_inv) in
    first-lawful c.args.card.key_length c.choose-chosen.result c.lawful-l.ensures long

pub slice_bounds-encipher_under-end-2 : goal.slice_bounds-encipher_under-end-2
slice_bounds-encipher_under-end-2 c =
    let b : length c.reply_text-b.result ≡ 96 = search (rules, c.reply_text-b.type_inv) in
    let s = size_most _ c.min-size.ensures in
    sym (length-take-le _ c.reply_text-b.result (omega arith))

pub encipher_under-m-requires : goal.encipher_under-m-requires
encipher_under-m-requires c =
    let long : length c.choose-chosen.result ≡ 32 = search (rules, c.choose-chosen.type_inv) in
    (first-lawful c.args.card.key_length c.choose-chosen.result c.lawful-l.ensures long, ap (λ r. r.value) c.expand-e.ensures)

pub slice_bounds-b-end-2 : goal.slice_bounds-b-end-2
slice_bounds-b-end-2 c =
    let b : length c.reply_text-b.result ≡ 96 = search (rules, c.reply_text-b.type_inv) in
    let s = size_most _ c.min-size.ensures in
    front-within c.reply_text-b.result c.encipher_under-m.new.text _ c.encipher_under-m.auto.text (omega arith)

pub slice_bounds-copy_at-end : goal.slice_bounds-copy_at-end
slice_bounds-copy_at-end c =
    let b : length c.reply_text-b.result ≡ 96 = search (rules, c.reply_text-b.type_inv) in
    let s = size_most _ c.min-size.ensures in
    front-count c.reply_text-b.result c.encipher_under-m.new.text _ c.encipher_under-m.auto.text (omega arith)

pub copy_at-requires : goal.copy_at-requires
copy_at-requires c =
    let b : length c.reply_text-b.result ≡ 96 = search (rules, c.reply_text-b.type_inv) in
    let s = size_most _ c.min-size.ensures in
    front_fits c.reply_text-b.result c.encipher_under-m.new.text (16 * c.min-size.result) c.encipher_under-m.auto.text (omega arith) c.args.out.now (omega (arith, c.requires))

pub returns : goal.returns
unfolding size_of
returns c =
    let o = c.copy_at in
    let a = c.args in
    let i = a.card in
    let b : length c.reply_text-b.result ≡ 96 = search (rules, c.reply_text-b.type_inv) in
    let buffer : ℕ → List ℕ = λ n. buffer_of (reply_text a.accepted i.area a.mode i.div_data a.fresh.now n) in
    let q = first-held i.key_length c.choose-chosen.result c.lawful-l.ensures ∙ ap (held (key_length_of i)) c.choose-chosen.ensures in
    record { told = sent-same _ _ _ c.encipher_under-m.new.text a.out.now o.new.d _ _ _ a.sum buffer _ _ q c.expand-e.ensures (c.min-size.ensures ∙ min-least _ _) c.reply_text-b.ensures b (size_most _ c.min-size.ensures) refl c.encipher_under-m.ensures.0; bytes = bytes_same _ _ _ c.encipher_under-m.new.text a.out.now o.new.d _ _ _ a.sum buffer _ c.encipher_under-m.result q c.expand-e.ensures (c.min-size.ensures ∙ min-least _ _) c.reply_text-b.ensures b (size_most _ c.min-size.ensures) refl c.encipher_under-m.ensures.1 o.ensures }
