-- `reader_accept::record_of` meets its contract: what is past the end adds nothing. Assumes nothing.
use lib.ListN.{take, length-take}
use Rattle.std.proofs.Common.{◌≡◌, sym, ap, ◌∙◌, List, ℕ, min, length, arith}
use Rattle.std.proofs.lemmas.List.{take_min}
use Rattle.octets.specs.Lists.{part}
use Rattle.reader_accept.proofs.record_of.Goals as goal

-- counts that are the same up to the length of s take the same part
first : (s : List ℕ) (n k : ℕ) → min k (length s) ≡ min n (length s) → take k s ≡ part s 0 n
unfolding part
first s n k e = sym (take_min k s) ∙ ap (λ (m : ℕ). take m s) e ∙ take_min n s

pub slice_bounds-result-end : goal.slice_bounds-result-end
slice_bounds-result-end c = simp length-take (omega arith)

pub returns : goal.returns
returns c = first c.args.work.now c.args.a.length _ (omega arith)
