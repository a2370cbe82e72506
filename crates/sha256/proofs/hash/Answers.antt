-- `sha256::hash` meets its contract: each turn of the loop is one block more. Assumes nothing.
use Rattle.std.proofs.Common.{◌≡◌, sym, ap, ap₂, ◌∙◌, List, ℕ, ◌+◌, add-one}
use Rattle.sha_padding.specs.Parsing.{block_at}
use Rattle.sha_block.specs.Hash.{compressed, state_after}
use Rattle.sha256.proofs.hash.Goals as goal

-- one block more
turned : (m : List ℕ) (i : ℕ) {h b r : List ℕ} → r ≡ compressed h b → h ≡ state_after m i → b ≡ block_at m i
    → r ≡ state_after m (i + 1)
unfolding state_after
turned m i e p q = e ∙ ap₂ compressed p q ∙ ap (state_after m) (sym (add-one i))

pub loop-i-init : goal.loop-i-init
unfolding state_after
loop-i-init c = (c.block_count-n.ensures, c.initial-h.ensures)

pub loop-i-preserved : goal.loop-i-preserved
loop-i-preserved c =
    let l = c.loop-i in
    (l.invariant.0, turned c.args.m.now l.i c.compress-x.ensures l.invariant.1 c.padded_block-b.ensures)
