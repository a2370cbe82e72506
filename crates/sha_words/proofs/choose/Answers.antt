-- `sha_words::choose` meets its contract, by the law of its short form. Assumes nothing.
use Rattle.std.proofs.Common.{rules}
use Rattle.sha_words.specs.WordLaws.{ch-short}
use Rattle.sha_words.proofs.choose.Goals as goal

pub returns : goal.returns
returns c = ch-short c.args.x c.args.y c.args.z (search rules) (search rules)
