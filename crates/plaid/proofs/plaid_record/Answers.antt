-- `plaid::plaid_record` meets its contract: the length is that of the part that `record_of` returns. Assumes nothing.
use mathlib.Core.Path.{ap}
use mathlib.Core.List.{List}
use Prim.Native.Nat.{ℕ}
use lib.ListN.{length}
use Rattle.plaid.specs.Interface.{record_at}
use Rattle.plaid.specs.declared.Part.{Part}
use Rattle.plaid.proofs.plaid_record.Goals as goal

part_of : List ℕ → Part
part_of p = record { start = 0; length = length p }

pub returns : goal.returns
unfolding record_at part_of
returns c = ap part_of c.record_of-record.ensures
