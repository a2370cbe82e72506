-- `sha_words::upper_sigma0` meets its contract: three rotations, each of a sum. Assumes nothing.
use Rattle.sha_words.specs.Functions.{upper_sigma0}
use Rattle.sha_words.specs.WordLaws.{three-turns}
use Rattle.std.proofs.Common.{rules}
use Rattle.sha_words.proofs.upper_sigma0.Goals as goal

pub returns : goal.returns
unfolding upper_sigma0
returns c =
    three-turns 2 11 c.args.x (search rules) 9
    c.rotate_right.ensures c.rotate_right-2.ensures c.rotate_right-3.ensures (search rules)
