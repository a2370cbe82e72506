-- `rounds::sub_shift` meets its contract: each byte is looked up, row r in the r-th column behind. Assumes nothing.
use Prim.Native.Nat.{◌+◌, ◌%◌}
use Rattle.sbox.specs.SubBytes.{sbox}
use Rattle.sbox.proofs.Undo.{sbox-lt}
use Rattle.rounds.specs.Meaning.{looked}
use Rattle.rounds.proofs.sub_shift.Goals as goal

pub returns : goal.returns
returns c =
    looked c.args.s sbox sbox-lt (λ r i. (i + r) % 4) c.args.table.now.ruled c.looked_up.ensures c.looked_up-2.ensures c.looked_up-3.ensures c.looked_up-4.ensures
