-- `rounds::bytes_of` meets its contract: the bytes of one column behind those of the other. Assumes nothing.
use mathlib.Core.Path.{ap, ◌∙◌}
use mathlib.Core.List.{List}
use Prim.Native.Nat.{ℕ}
use Rattle.column.specs.Word.{put}
use Rattle.rounds.proofs.bytes_of.Goals as goal

pub returns : goal.returns
returns c =
    let s = c.args.s in
    c.put.ensures
    ∙ ap (λ (b : List ℕ). put b 12 s.c3)
    (c.put-three.ensures
    ∙ ap (λ (b : List ℕ). put b 8 s.c2) (c.put-two.ensures ∙ ap (λ (b : List ℕ). put b 4 s.c1) c.put-one.ensures))
