-- `reader_seal::Contents::write_str2` meets its contract: four writes one after the other are one (`str2-writes`). Assumes nothing.
use Rattle.reader_seal.proofs.Writes.{str2-writes, number-bytes}
use mathlib.Core.Path.{ap, ◌∙◌}
use Rattle.octets.specs.Lists.{over}
use Rattle.std.proofs.Common.{rules}
use Rattle.reader_seal.proofs.Contents.write_str2.Goals as goal

pub returns : goal.returns
returns c =
    str2-writes
    c.args.self.mode
    _
    _
    _
    _
    (c.copy_at.ensures ∙ ap (over c.args.b.now 0) (c.to_be_bytes-number.ensures ∙ number-bytes c.args.self.mode.0 (search rules)))
    c.copy_at-2.ensures
    c.copy_at-3.ensures
    c.copy_at-4.ensures
