-- `reader_seal::hashed` meets its contract: the two writes make RND1 and RND2 (`both-written`). Assumes nothing.
use mathlib.Core.Path.{sym, ap, ◌∙◌}
use lib.Seq.{length-take-le}
use Rattle.sha_block.specs.Hash.{sha256}
use Rattle.reader_seal.proofs.Writes.{both-written}
use Rattle.std.proofs.Common.{rules}
use Rattle.reader_seal.proofs.hashed.Goals as goal

pub slice_bounds-digest-end : goal.slice_bounds-digest-end
slice_bounds-digest-end c = sym (length-take-le _ _ (search rules))

pub returns : goal.returns
returns c =
    c.digest.ensures
    ∙ ap sha256 (both-written _ _ _ c.copy_at.ensures c.copy_at-2.ensures)
