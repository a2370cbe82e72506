-- `bytes_of` meets its contract, byte by byte. Assumes nothing.
use mathlib.Core.Path.{refl}
use Rattle.octets.specs.Lists.{cons}
use Rattle.binary.proofs.bytes_of.Goals as goal

pub returns : goal.returns
returns c =
    cons c.byte_at.ensures
    (cons c.byte_at-2.ensures
    (cons c.byte_at-3.ensures
    (cons c.byte_at-4.ensures refl)))
