-- `key_expansion::long_rows` meets its contract: the rows below i are the round keys, and the words before row i are the schedule's. Assumes
-- nothing.
use Prim.Native.Nat.{ℕ, ◌-◌, ◌*◌}
use mathlib.Core.Path.{◌≡◌, sym, ap, ◌∙◌}
use native.Mathlib.Omega.{arith}
use Rattle.octets.specs.Lists.{part}
use Rattle.key_expansion.specs.KeyLength.{length-least}
use Rattle.key_expansion.specs.Filling.{key-words, made_none, made_more, made_all, behind-two}
use Rattle.std.proofs.Common.{rules}
use Rattle.key_expansion.proofs.long_rows.Goals as goal

pub loop-i-init : goal.loop-i-init
loop-i-init c =
    let r = c.first_row-i in
    let nk = c.args.nk in
    let key = c.args.key.now in
    let kl = c.requires.0 in
    let first = c.block_at-first in
    let f = key-words nk key c.columns_of.result 0 (omega (arith, length-least (4 * nk) kl)) (c.columns_of.ensures ∙ first.ensures) in
    let e : 4 * (nk - 4) ≡ 4 * nk - 16 = omega arith in
    let g = key-words nk key c.columns_of-newer.result (nk - 4) (omega (arith, length-least (4 * nk) kl)) (c.columns_of-newer.ensures ∙ c.block_at-end.ensures ∙ ap (λ (n : ℕ). part key n 16) (sym e)) in
    let e₀ = sym c.columns_of.ensures in
    let e₁ = sym c.columns_of-newer.ensures in
    made_none nk kl key _ c.columns_of.result c.columns_of-newer.result f g e₀ (λ _. e₁) c.earlier-older.ensures r.ensures

pub loop-i-preserved : goal.loop-i-preserved
loop-i-preserved c =
    let l = c.loop-i in
    let t = c.turn-t in
    let lt = c.loop-i-test.true in
    let e = t.ensures in
    made_more c.args.nk c.args.key.now c.requires.0 l.older l.newer t.result.next l.j l.x l.i (search rules) lt l.invariant e.0 e.1 e.2 e.3 c.bytes_of.ensures

pub returns : goal.returns
returns c =
    let l = c.loop-i in
    made_all c.args.nk c.args.key.now c.requires.0 _ l.w l.i (search rules)
    (λ k h d. behind-two _ _ k (omega arith) d)
    c.loop-i-test.false l.invariant
