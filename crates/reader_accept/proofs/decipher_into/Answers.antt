-- `reader_accept::decipher_into` meets its contract: the response copied, and deciphered where it stands (`deciphered-writes`). Assumes nothing.
use mathlib.Core.Path.{sym}
use lib.Seq.{length-take-le}
use Rattle.reader_accept.proofs.Laws.{known}
use Rattle.reader_accept.proofs.Writes.{deciphered-writes}
use Rattle.std.proofs.Common.{rules}
use Rattle.reader_accept.proofs.decipher_into.Goals as goal

pub slice_bounds-decipher_under-end-3 : goal.slice_bounds-decipher_under-end-3
slice_bounds-decipher_under-end-3 c = sym (length-take-le _ _ (search rules))

pub returns : goal.returns
returns c =
    deciphered-writes
    c.args.hash.now
    c.args.response.now
    c.args.work.now
    (known _ c.requires.1).whole
    c.copy_at.ensures
    c.decipher_under.ensures.1
