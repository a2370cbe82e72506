-- `expand` meets its contract: the sum of the parts one after the other is that of the step. Assumes nothing.
use mathlib.Core.Path.{◌≡◌, sym, ap, ap₂, ◌∙◌}
use mathlib.Core.List.{List, [], ◌∷◌, ◌++◌, flatten, append-nil}
use Prim.Native.Nat.{ℕ, ◌+◌, ◌/◌}
use native.Mathlib.Omega.{arith}
use lib.ListN.{length, take}
use Rattle.key_expansion.specs.KeyLength.{length_most}
use Rattle.key_expansion.specs.KeyExpansion.{round_keys}
use Rattle.key_expansion.specs.Schedule.{fifteen}
use Rattle.aes.specs.Rows.{lent, length-lent}
use Rattle.work.specs.Steps.{expansion, mixed, mixed_all, sum_from}
use Rattle.work.specs.Laws.{mixed_all-append}
use Rattle.work.specs.declared.Made.{Made}
use Rattle.steps.specs.Made.{expansion_step}
use Rattle.std.proofs.Common.{rules}
use Rattle.steps.proofs.expand.Goals as goal

abbrev made : List (List ℕ) → ℕ → Made (List (List ℕ))
made w s = record { value = w; count = 1; sum = s }

summed : (key : List ℕ) (w : List (List ℕ)) (s : ℕ) → mixed_all (mixed_all (mixed s expansion) key) (flatten w) ≡ mixed_all s (expansion ∷ (key ++ [] ++ flatten w))
summed key w s =
    sym (mixed_all-append (mixed s expansion) key (flatten w))
    ∙ ap (λ (l : List ℕ). mixed_all (mixed s expansion) (l ++ flatten w)) (sym (append-nil key))

same : (key : List ℕ) (s : ℕ) {w : List (List ℕ)} {a b d : ℕ} → w ≡ fifteen (length key / 4) key → a ≡ mixed s expansion → b ≡ mixed_all a key → d ≡ mixed_all b (flatten (take (length key / 4 + 7) w)) →
    made w d ≡ made (fifteen (length key / 4) key) (sum_from s (expansion_step key ∷ []))
same key s {w} ew ea eb ed =
    let keys : List (List ℕ) = round_keys (length key / 4) key in
    ap₂ made ew
    (ed
    ∙ ap₂ (λ (t : ℕ) (x : List (List ℕ)). mixed_all t (flatten x)) (eb ∙ ap (λ (t : ℕ). mixed_all t key) ea) (lent key ew)
    ∙ summed key keys s)

pub slice_bounds-rows-end : goal.slice_bounds-rows-end
slice_bounds-rows-end c =
    let long : length c.expand-rows.result ≡ 15 = search rules in
    omega (arith, long, length_most (length c.args.key.now) c.requires)

pub slice_bounds-mix_rows-end : goal.slice_bounds-mix_rows-end
slice_bounds-mix_rows-end c =
    let k = c.args.key.now in
    sym (length-lent k c.expand-rows.ensures)

pub mix_rows-c-requires : goal.mix_rows-c-requires
mix_rows-c-requires c =
    let k = c.args.key.now in
    omega (arith, length-lent k c.expand-rows.ensures, length_most (length k) c.requires)

pub returns : goal.returns
returns c =
    let a = c.args in
    same a.key.now a.sum c.expand-rows.ensures (c.mix-a.ensures ∙ ap (mixed a.sum) c.number.ensures) c.mix_all-b.ensures c.mix_rows-c.ensures
