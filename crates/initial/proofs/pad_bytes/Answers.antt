-- `initial::pad_bytes` meets its contract: all behind F is the rest. Assumes nothing.
use mathlib.Core.Path.{ap, ◌∙◌}
use Prim.Native.Nat.{ℕ}
use lib.ListN.{drop}
use Rattle.plaid_types.specs.Keys.{str1_length}
use Rattle.frame.specs.Declines.{pad_bytes}
use Rattle.initial.proofs.Writes.{take_drop_all}
use Rattle.std.proofs.Common.{rules}
use Rattle.initial.proofs.pad_bytes.Goals as goal

pub slice_bounds-result-count : goal.slice_bounds-result-count
unfolding str1_length
slice_bounds-result-count c = search rules

pub slice_bounds-result-start : goal.slice_bounds-result-start
unfolding str1_length
slice_bounds-result-start c = search rules

pub returns : goal.returns
unfolding pad_bytes
returns c =
    let a = c.args in
    take_drop_all c.str1_length-from.result a.fresh.now ∙ ap (λ (n : ℕ). drop n a.fresh.now) c.str1_length-from.ensures
