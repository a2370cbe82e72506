-- `diversification::diversify` meets its contract: one encipherment, or two. Assumes nothing.
use mathlib.Core.Path.{◌≡◌, sym, ap, ap₂, ◌∙◌}
use mathlib.Core.List.{List}
use Prim.Native.Nat.{ℕ, ◌-◌}
use native.Mathlib.Omega.{arith}
use lib.ListN.{length, replicate}
use lib.Seq.{length-take-le}
use Rattle.octets.specs.Lists.{over}
use Rattle.aes.specs.Aes.{aes_under}
use Rattle.key_expansion.specs.KeyLength.{length_most}
use Rattle.work.specs.Steps.{encipherment, mixed_all, bytes_of}
use Rattle.work.specs.Weights.{prepared-step}
use Rattle.diversification.specs.Laws.{rows-two, by_rows, short, told-short, told-long}
use Rattle.std.proofs.Common.{rules}
use Rattle.diversification.proofs.diversify.Goals as goal

pub encipher-first-requires : goal.encipher-first-requires
encipher-first-requires c = rows-two c.args.fa_key.now c.requires.1

pub encipher-second-requires : goal.encipher-second-requires
encipher-second-requires c = rows-two c.args.fa_key.now c.requires.1

pub slice_bounds-second-end : goal.slice_bounds-second-end
slice_bounds-second-end c =
    let most = length_most (length c.args.fa_key.now) c.requires.0 in
    search (rules, most)

pub slice_bounds-copy_at-end-then-fa_key-gt16-2 : goal.slice_bounds-copy_at-end-then-fa_key-gt16-2
slice_bounds-copy_at-end-then-fa_key-gt16-2 c =
    let fa = c.args.fa_key.now in
    let x = c.encipher-second.result in
    let long : length x ≡ 16 = search rules in
    sym (length-take-le (length fa - 16) x (omega (arith, long, length_most (length fa) c.requires.0)))

pub copy_at-requires-then-fa_key-gt16 : goal.copy_at-requires-then-fa_key-gt16
copy_at-requires-then-fa_key-gt16 c =
    let fa = c.args.fa_key.now in
    let x = c.encipher-second.result in
    let long : length x ≡ 16 = search rules in
    omega (arith, long, length_most (length fa) c.requires.0, length-take-le (length fa - 16) x (omega (arith, long, length_most (length fa) c.requires.0)))

pub returns-then-fa_key-gt16 : goal.returns-then-fa_key-gt16
returns-then-fa_key-gt16 c =
    let a = c.args in
    let fa = a.fa_key.now in
    let f = c.flip-other.ensures in
    let e = c.encipher-first.ensures ∙ by_rows fa a.div c.requires.1 in
    let e₂ = c.encipher-second.ensures ∙ by_rows fa c.flip-other.result c.requires.1 ∙ ap (aes_under fa) f in
    told-long fa a.div a.sum c.if-fa_key-gt16.true
    (c.copy_at.ensures ∙ ap (over (replicate 32 0) 0) e)
    e₂
    c.copy_at-then-fa_key-gt16.ensures
    (rw c.number-kind.ensures at c.mix_cipher-after.ensures ∙ prepared-step a.sum (record { kind = encipherment; key = fa; input = a.div; output = c.encipher-first.result }) c.prepare-shown.ensures ∙ ap (λ (x : List ℕ). mixed_all a.sum (bytes_of (record { kind = encipherment; key = fa; input = a.div; output = x }))) e)
    (rw c.number-kind.ensures at c.mix_cipher.ensures ∙ prepared-step c.mix_cipher-after.result (record { kind = encipherment; key = fa; input = c.flip-other.result; output = c.encipher-second.result }) c.prepare-shown.ensures ∙ ap₂ (λ (x y : List ℕ). mixed_all c.mix_cipher-after.result (bytes_of (record { kind = encipherment; key = fa; input = x; output = y }))) f e₂)

pub returns : goal.returns
returns c =
    let a = c.args in
    let fa = a.fa_key.now in
    let e = c.encipher-first.ensures ∙ by_rows fa a.div c.requires.1 in
    told-short fa a.div a.sum (short (length fa) c.requires.0 c.if-fa_key-gt16.false)
    (c.copy_at.ensures ∙ ap (over (replicate 32 0) 0) e)
    (rw c.number-kind.ensures at c.mix_cipher-after.ensures ∙ prepared-step a.sum (record { kind = encipherment; key = fa; input = a.div; output = c.encipher-first.result }) c.prepare-shown.ensures ∙ ap (λ (x : List ℕ). mixed_all a.sum (bytes_of (record { kind = encipherment; key = fa; input = a.div; output = x }))) e)
