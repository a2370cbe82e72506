-- `write_answer` meets its contract: its three parts, one after the other. Assumes nothing.
use Rattle.std.proofs.Common.{◌≡◌, refl, List, [], ◌∷◌, ◌++◌, ℕ, length, ap, ◌∙◌, arith}
use Rattle.printing.specs.Laws.{then}
use Rattle.door_answers.specs.Answer.{heading, answer}
use Rattle.door_answers.proofs.write_answer.Goals as goal

empty : (s : List ℕ) → length s ≡ 0 → s ≡ []
empty [] e = refl
empty (x ∷ s) e = absurd (omega arith)

pub returns-clause-written : goal.returns-clause-written
unfolding answer
returns-clause-written c =
    let shown = c.heading.ensures.written ∙ ap (λ (l : List ℕ). l ++ heading c.args.start.now c.args.n) (empty _ c.requires.1) in
    then [] _ _ (then [] _ _ shown c.verdict.ensures.written) c.put.ensures
