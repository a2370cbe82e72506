-- `hash` meets its contract. The loop's laws are those of Turns. Assumes nothing.
use mathlib.Core.Path.{◌≡◌, refl, sym, ap, ◌∙◌}
use mathlib.Core.List.{List, []}
use Prim.Native.Nat.{ℕ, ◌-◌}
use native.Mathlib.Omega.{arith}
use native.Mathlib.Numerals.{add-one}
use Rattle.octets.specs.Lists.{table}
use Rattle.sha_padding.specs.Parsing.{blocks}
use Rattle.sha_block.specs.Hash.{state_after, digest_bytes, sha256}
use Rattle.work.specs.Steps.{hash_block, sum_from}
use Rattle.work.specs.declared.Made.{Made}
use Rattle.steps.specs.Made.{hash_step, hash_steps}
use Rattle.steps.specs.Laws.{counted-hash}
use Rattle.steps.proofs.Turns.{state-turn, sum-turn}
use Rattle.steps.proofs.hash.Goals as goal

hashed-same : {d d' : List ℕ} {n n' s s' : ℕ} → d ≡ d' → n ≡ n' → s ≡ s' → ◌≡◌ {A = Made (List ℕ)} (record { value = d; count = n; sum = s }) (record { value = d'; count = n'; sum = s' })
hashed-same p q r = λ i. record { value = p i; count = q i; sum = r i }

pub loop-i-init : goal.loop-i-init
unfolding state_after hash_steps
loop-i-init c =
    let m = c.args.m.now in
    let e : c.block_count-n.result - 0 ≡ blocks m = omega (arith, c.block_count-n.ensures) in (
      c.block_count-n.ensures,
      c.initial-h.ensures,
      ap (λ (k : ℕ). sum_from c.args.sum (table (hash_step m) k 0)) e,
    )

pub loop-i-preserved : goal.loop-i-preserved
loop-i-preserved c =
    let l = c.loop-i in
    let m = c.args.m.now in
    let x = state-turn m l.i l.invariant.1 c.padded_block-b.ensures c.compress-x.ensures in (
      l.invariant.0,
      x ∙ ap (state_after m) (sym (add-one l.i)),
      sum-turn m l.i l.invariant.1 c.padded_block-b.ensures c.compress-x.ensures _ _ _ _ [] _ c.loop-i-test.true refl c.to_bytes-o.ensures (rw c.number.ensures at c.mix_step-s.ensures) l.invariant.2,
    )

pub returns : goal.returns
unfolding sha256
returns c =
    let l = c.loop-i in
    let m = c.args.m.now in
    let e : l.i ≡ blocks m = omega arith in
    let z : c.block_count-n.result - l.i ≡ 0 = omega arith in
    hashed-same
    (c.to_bytes.ensures ∙ ap digest_bytes (l.invariant.1 ∙ ap (state_after m) e))
    (c.block_count-n.ensures ∙ sym (counted-hash hash_block m))
    (sym (ap (λ (k : ℕ). sum_from l.s (table (hash_step m) k l.i)) z) ∙ l.invariant.2)
