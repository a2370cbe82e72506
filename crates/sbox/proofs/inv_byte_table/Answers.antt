-- `sbox::inv_byte_table` meets its contract: the rule of INVSBOX, computed over all 256 entries of the constant. Assumes nothing.
use mathlib.Core.Path.{refl}
use Rattle.sbox.specs.InvSubBytes.{inv_sbox}
use Rattle.sbox.specs.Rule.{inv-ruled}
use Rattle.sbox.proofs.inv_byte_table.Goals as goal

pub invariant_of-result : goal.invariant_of-result
unfolding inv_sbox
invariant_of-result c = record { ruled = inv-ruled _ refl tt }
