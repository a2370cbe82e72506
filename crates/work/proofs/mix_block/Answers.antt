-- `mix_block` meets its contract: the weights are those of Weights, and the loop takes the bytes in by them. Assumes nothing.
use Rattle.std.proofs.Common.{◌≡◌, ℕ, List, [], suc, ◌+◌, ◌-◌, ◌*◌, ◌%◌, ◌^◌, ◌<◌, refl, ap, ◌∙◌, Fits, w8, w32, length, get_or, rules, arith}
use lib.ListN.{drop, drop_of_length-le}
use Rattle.octets.specs.Lists.{table, get_or-table}
use Rattle.work.specs.Weights.{weight, weighed, ones, mixed-weighed}
use Rattle.work.specs.declared.TheConstants.{WEIGHTS}
use Rattle.work.proofs.Turns.{weights-turn, weighed-small}
use Rattle.work.proofs.mix_block.Goals as goal

abbrev sixteen : List ℕ
sixteen = table (λ (j : ℕ). weight (15 - j)) 16 0

tabled : WEIGHTS ≡ sixteen
tabled = refl

-- a weight of the table
weight-at : (i : ℕ) → i < 16 → get_or WEIGHTS i 0 ≡ weight (15 - i)
weight-at i h =
    let z : 0 + i ≡ i = omega arith in
    ap (λ (t : List ℕ). get_or t i 0) tabled ∙ get_or-table (λ (j : ℕ). weight (15 - j)) 16 0 i 0 h ∙ ap (λ (j : ℕ). weight (15 - j)) z

-- what a byte adds
small_at : (i b : ℕ) → i < 16 → b < 256 → get_or WEIGHTS i 0 * b < 2 ^ 40
small_at i b h l = weighed-small (get_or WEIGHTS i 0) b (omega (arith, weight-at i h)) l

pub loop-i-init : goal.loop-i-init
loop-i-init c = rw c.from.ensures (refl, omega arith)

pub overflow_mul-sum-in-loop-i : goal.overflow_mul-sum-in-loop-i
overflow_mul-sum-in-loop-i c =
    let f : Fits w8 (get_or c.args.b c.loop-i.i 0) = search rules in
    let e = small_at c.loop-i.i _ c.loop-i-test.true f.fits in
    rw c.from-in-loop-i.ensures (record { fits = omega arith })

pub overflow_add-sum-in-loop-i : goal.overflow_add-sum-in-loop-i
overflow_add-sum-in-loop-i c =
    let f : Fits w8 (get_or c.args.b c.loop-i.i 0) = search rules in
    let s : Fits w32 c.args.s = search rules in
    let e = small_at c.loop-i.i _ c.loop-i-test.true f.fits in
    rw c.from-in-loop-i.ensures (record { fits = omega (arith, s.fits) })

pub loop-i-preserved : goal.loop-i-preserved
loop-i-preserved c =
    let l = c.loop-i in
    let b = c.args.b in
    let f : Fits w8 (get_or b l.i 0) = search rules in
    let h = c.loop-i-test.true in
    let e = small_at l.i _ h f.fits in
    let long : length b ≡ 16 = search rules in
    let n : 15 - l.i ≡ length b - suc l.i = omega arith in
    rw c.from-in-loop-i.ensures
    (weights-turn b l.i _ l.sum _ _ (omega arith) (weight-at l.i h ∙ ap weight n) refl l.invariant.0, omega arith)

pub returns : goal.returns
returns c =
    let l = c.loop-i in
    let b = c.args.b in
    let s : Fits w32 c.args.s = search rules in
    let long : length b ≡ 16 = search rules in
    let i : l.i ≡ 16 = omega arith in
    let none : drop l.i b ≡ [] = drop_of_length-le b {i = l.i} (omega arith) in
    omega (arith, l.invariant.0, ap weighed none, mixed-weighed c.args.s b s.fits ∙ ap (λ (n : ℕ). (weight n * c.args.s + (weighed b + ones n)) % 2 ^ 32) long)
