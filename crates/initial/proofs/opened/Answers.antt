-- `initial::opened` meets its contract: RND1 is the first l of the fresh bytes, and the first l of the 32 that hold it. Assumes nothing.
use mathlib.Core.Bool.{true}
use mathlib.Core.List.{List}
use mathlib.Core.Path.{◌≡◌, sym, ap, ap₂, ◌∙◌}
use Prim.Native.Nat.{ℕ, ◌-◌}
use native.Mathlib.Omega.{arith}
use lib.ListN.{length, take, length-take}
use lib.Seq.{length-take-le}
use Rattle.octets.specs.Lists.{part, over, length_part, part-long}
use Rattle.plaid_types.specs.Keys.{wide, held, str1_length}
use Rattle.plaid_types.specs.KeyLaws.{held-wide}
use Rattle.initial.specs.Initial.{str1}
use Rattle.std.proofs.Common.{rules}
use Rattle.initial.proofs.opened.Goals as goal

pub wide-rnd1-requires : goal.wide-rnd1-requires
wide-rnd1-requires c = omega (arith, c.requires.0, part-long _ _ _ (omega (arith, c.requires.0, c.requires.1)) c.part_of.ensures)

pub slice_bounds-str1-end : goal.slice_bounds-str1-end
slice_bounds-str1-end c = sym (length-take-le _ _ (search rules))

pub str1-requires : goal.str1-requires
str1-requires c =
    (omega (arith, c.requires.0, length-take c.args.l c.wide-rnd1.result), search rules)

pub returns : goal.returns
unfolding held part
returns c =
    let a = c.args in
    let k : List ℕ = part a.fresh.now 0 a.l in
    let n = length_part a.fresh.now 0 a.l (omega (arith, c.requires.0, c.requires.1)) in
    let w : c.wide-rnd1.result ≡ wide k = c.wide-rnd1.ensures ∙ ap wide c.part_of.ensures in
    let p : take a.l c.wide-rnd1.result ≡ k = ap (take a.l) w ∙ held-wide a.l k n in
    record { value = ap (λ (r : List ℕ). record { opened = true; id = a.k.id; rnd1 = r; fa_key = a.k.fa_key }) w; out_after = c.str1.ensures ∙ ap₂ (λ (m : ℕ) (x : List ℕ). over a.out.now (256 - str1_length m) (str1 a.k.id a.div x)) (ap length p ∙ n) p }
