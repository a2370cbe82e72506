-- `sha_block::compress` meets its contract: the schedule goes into the turns, and what they give is added word by word.
-- Assumes nothing.
use Rattle.std.proofs.Common.{◌≡◌, ◌∙◌, ap, List, ℕ, ◌<◌, get_or, rules}
use Rattle.std.proofs.lemmas.List.FromFn.{fill_by_all}
use Rattle.sha_words.specs.Words.{plus}
use Rattle.sha_block.specs.Hash.{turns, sums, compressed}
use Rattle.sha_block.proofs.compress.Goals as goal

pub returns : goal.returns
unfolding compressed
returns c =
    let h = c.args.h in
    let v = c.all_turns-v.result in
    let word : (j : ℕ) → j < 8 → get_or c.from_fn.result j 0 ≡ plus (get_or v j 0) (get_or h j 0) =
    λ j l. search rules in
    fill_by_all _ c.from_fn.result 8 0 c.from_fn.ensures.items.long word
    ∙ ap (sums h) (c.all_turns-v.ensures ∙ ap (λ (w : List ℕ). turns w h 64) c.full_schedule.ensures)
