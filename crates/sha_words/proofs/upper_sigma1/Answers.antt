-- `sha_words::upper_sigma1` meets its contract: three rotations, each of a sum. Assumes nothing.
use Rattle.sha_words.specs.Functions.{upper_sigma1}
use Rattle.sha_words.specs.WordLaws.{three-turns}
use Rattle.std.proofs.Common.{rules}
use Rattle.sha_words.proofs.upper_sigma1.Goals as goal

pub returns : goal.returns
unfolding upper_sigma1
returns c =
    three-turns 6 5 c.args.x (search rules) 14
    c.rotate_right.ensures c.rotate_right-2.ensures c.rotate_right-3.ensures (search rules)
