-- `sbox::byte_table` meets its contract: the rule of SBOX, computed over all 256 entries of the constant. Assumes nothing.
use mathlib.Core.Path.{refl}
use Rattle.sbox.specs.SubBytes.{sbox}
use Rattle.sbox.specs.Rule.{sbox-ruled}
use Rattle.sbox.proofs.byte_table.Goals as goal

pub invariant_of-result : goal.invariant_of-result
unfolding sbox
invariant_of-result c = record { ruled = sbox-ruled _ refl tt }
