-- `sha_words::majority` meets its contract, by the law of its short form. Assumes nothing.
use Rattle.sha_words.specs.WordLaws.{maj-short}
use Rattle.sha_words.proofs.majority.Goals as goal

pub returns : goal.returns
returns c = maj-short c.args.x c.args.y c.args.z
