-- `list::number` meets its contract. The loop's invariant: v is the number in the bytes before the index. Assumes nothing.
use mathlib.Core.Path.{refl, ap, ◌∙◌}
use mathlib.Core.List.{List}
use Prim.Native.Nat.{ℕ, min}
use lib.Seq.{take_all}
use Rattle.list.specs.Ber.{unsigned}
use Rattle.list.specs.Laws.{largest}
use Rattle.list.proofs.Within.{number-turn}
use Rattle.std.proofs.Common.{rules}
use Rattle.list.proofs.number.Goals as goal

pub loop-b-init : goal.loop-b-init
unfolding unsigned
loop-b-init c = refl

pub loop-b-preserved : goal.loop-b-preserved
loop-b-preserved c = let l = c.loop-b in number-turn _ l.b-index l.v c.grown-v.result (search rules) l.invariant c.grown-v.ensures

pub returns : goal.returns
returns c = c.loop-b.invariant ∙ ap (λ (s : List ℕ). min (unsigned s) largest) (take_all _ _ (search rules))
