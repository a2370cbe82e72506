-- `wide` meets its contract: the key's bytes are copied over zeros, in two parts. Assumes nothing.
-- the first k bytes, and the others behind them
use Prim.Native.Nat.{ℕ, ◌+◌, ◌-◌, ◌≤◌}
use mathlib.Core.Path.{◌≡◌, sym, ap, ◌∙◌}
use mathlib.Core.List.{List}
use native.Mathlib.Omega.{arith}
use lib.ListN.{length, take, drop, replicate, length-take}
use lib.Seq.{length-take-le, take-add}
use Rattle.octets.specs.Lists.{part, over}
use Rattle.octets.specs.Writes.{over-behind}
use Rattle.plaid_types.specs.Keys.{wide, held}
use Rattle.std.proofs.Common.{rules}
use Rattle.load.proofs.wide.Goals as goal

parts : (b : List ℕ) (k n : ℕ) {e e' : List ℕ} → k ≤ n → k ≤ length b → e ≡ over (replicate 32 0) 0 (take k b) →
    e' ≡ over e k (take (n - k) (drop k b)) → e' ≡ wide (held n b)
unfolding wide held part
parts b k n h g p q =
    let m : k + (n - k) ≡ n = omega arith in
    over-behind (replicate 32 0) (take k b) (take (n - k) (drop k b)) (length-take-le k b g) p q
    ∙ ap (over (replicate 32 0) 0) (sym (take-add k (n - k) b) ∙ ap (λ (x : ℕ). take x b) m)

pub slice_bounds-bytes-end : goal.slice_bounds-bytes-end
slice_bounds-bytes-end c =
    let e : length c.args.key.bytes ≡ 32 = search rules in
    omega arith

pub slice_bounds-copy_at-end-2 : goal.slice_bounds-copy_at-end-2
slice_bounds-copy_at-end-2 c =
    let e : length c.args.key.bytes ≡ 32 = search rules in
    sym (length-take-le 16 c.args.key.bytes (omega arith))

pub copy_at-requires : goal.copy_at-requires
copy_at-requires c = omega (arith, length-take 16 c.args.key.bytes)

pub slice_bounds-copy_at-end-4 : goal.slice_bounds-copy_at-end-4
slice_bounds-copy_at-end-4 c =
    let e : length c.args.key.bytes ≡ 32 = search rules in
    omega arith

pub returns : goal.returns
returns c =
    let e : length c.args.key.bytes ≡ 32 = search rules in
    parts c.args.key.bytes 16 c.args.key.length c.requires.0 (omega arith) c.copy_at.ensures c.copy_at-2.ensures
