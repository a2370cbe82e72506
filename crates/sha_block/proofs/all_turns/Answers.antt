-- `sha_block::all_turns` meets its contract: each turn of the inner loop is one turn more. Assumes nothing.
use Rattle.std.proofs.Common.{◌≡◌, refl, sym, ap, ap₂, ◌∙◌, List, ℕ, suc, get_or, arith}
use Rattle.sha_block.specs.Constants.{constants}
use Rattle.sha_block.specs.Hash.{turn, turns}
use Rattle.sha_block.proofs.all_turns.Goals as goal

-- one turn more, with the constant a and the word b
more : (w h : List ℕ) (t s a b : ℕ) {k v r : List ℕ} → k ≡ constants → v ≡ turns w h t → r ≡ turn v a b
    → s ≡ suc t → a ≡ get_or k t 0 → b ≡ get_or w t 0 → r ≡ turns w h s
unfolding turns
more w h t s a b {k} {v} p e f q x y =
    f
    ∙ ap₂ (turn v) x y
    ∙ ap₂ (λ (v k : List ℕ). turn v (get_or k t 0) (get_or w t 0)) e p
    ∙ ap (turns w h) (sym q)

pub loop-n-init : goal.loop-n-init
unfolding constants turns
loop-n-init c = (refl, refl)

pub loop-j-preserved : goal.loop-j-preserved
loop-j-preserved c =
    let a = c.args in
    let l = c.loop-j in
    let k = l.invariant.0 in
    let f = c.one_turn-next.ensures in
    (k, more a.w a.h _ _ _ _ k l.invariant.1 f (omega arith) (search arith) (search arith))
