-- `rounds::inv_shift_sub` meets its contract: each byte is looked up, row r in the r-th column before. Assumes nothing.
use Prim.Native.Nat.{◌+◌, ◌-◌, ◌%◌}
use Rattle.sbox.specs.InvSubBytes.{inv_sbox}
use Rattle.sbox.proofs.Undo.{inv_sbox-lt}
use Rattle.rounds.specs.Meaning.{looked}
use Rattle.rounds.proofs.inv_shift_sub.Goals as goal

pub returns : goal.returns
returns c =
    looked c.args.s inv_sbox inv_sbox-lt (λ r i. (i + (4 - r)) % 4) c.args.table.now.ruled c.looked_up.ensures c.looked_up-2.ensures c.looked_up-3.ensures c.looked_up-4.ensures
