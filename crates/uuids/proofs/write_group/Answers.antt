-- `write_group` meets its contract: the digits stand behind the hyphen (`over-next`). Assumes nothing.
use mathlib.Core.Path.{refl}
use mathlib.Core.List.{[], ◌∷◌}
use native.Mathlib.Omega.{arith}
use Rattle.octets.specs.Writes.{over-next}
use Rattle.hexadecimal.specs.Hexadecimal.{digits_of}
use Rattle.uuids.specs.Uuid.{hyphen}
use Rattle.uuids.proofs.write_group.Goals as goal

pub returns : goal.returns
returns c =
    let a = c.args in
    over-next a.out.now (hyphen ∷ []) (digits_of a.octets.now) a.at refl (omega arith) c.copy_at.ensures c.write_digits.ensures
