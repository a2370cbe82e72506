-- `command` meets its contract: three writes one behind the other are one (`command-writes`). Assumes nothing.
use mathlib.Core.Path.{sym}
use Rattle.reader_list.specs.Laws.{length-command}
use Rattle.reader_list.proofs.Writes.{command-writes}
use Rattle.reader_list.proofs.command.Goals as goal

pub returns : goal.returns
returns c =
    let ids = c.args.ids.now in
    record {
      value = sym (length-command ids);
      out_after = command-writes _ ids c.copy_at.ensures c.entries.ensures c.copy_at-2.ensures;
    }
