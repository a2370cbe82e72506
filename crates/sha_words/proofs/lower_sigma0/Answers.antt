-- `sha_words::lower_sigma0` meets its contract: two rotations, the outer one of a sum. Assumes nothing.
use Rattle.std.proofs.Common.{ℕ, bit_xor, ap, rules}
use Rattle.sha_words.specs.Words.{shr}
use Rattle.sha_words.specs.Functions.{sigma0}
use Rattle.sha_words.specs.WordLaws.{two-turns}
use Rattle.sha_words.proofs.lower_sigma0.Goals as goal

pub returns : goal.returns
unfolding sigma0
returns c =
    let x = c.args.x in
    let e = two-turns 7 11 x (search rules) c.rotate_right.ensures c.rotate_right-2.ensures (search rules) in
    ap (λ (t : ℕ). bit_xor t (shr 3 x)) e
