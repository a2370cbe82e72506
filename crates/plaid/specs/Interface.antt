-- The exported operations, by the definitions of load, command and Accept. Assumes nothing.
use Rattle.std.specs.Prelude.{◌≡◌, List, ℕ, length, take, drop}
use Rattle.std.proofs.Common.{sym, ap, ◌∙◌, take-append-drop}
use Rattle.std.proofs.Math.Seq.{take-append_seam}
use Rattle.octets.specs.Lists.{part}
use Rattle.plaid_types.specs.declared.KeySet.{KeySet}
use Rattle.load.specs.Load.{loaded}
use Rattle.load.specs.declared.Loaded.{Loaded}
use Rattle.reader_accept.specs.Accept.{record_part}
use Rattle.reader_accept.specs.declared.Accepted.{Accepted}
use Rattle.plaid.specs.declared.Given.{Given}
use Rattle.plaid.specs.declared.Part.{Part}

-- a load of a list of key sets, what is given beside it, and a record area
unfoldable pub load_of : List KeySet → Given → List ℕ → Loaded
load_of sets g area = loaded g.key_length sets (length sets) g.modes g.mode_count area g.div_data g.shill_key g.shill_handle

-- "these are returned as a part of the work buffer": the part by its start, counted from 0, and its length
unfoldable pub record_at : List ℕ → Accepted → Part
record_at work a = record { start = 0; length = length (record_part work a) }

-- what stands there in the work buffer is the part that Accept returns
pub record-there : (work : List ℕ) (a : Accepted) → part work (record_at work a).start (record_at work a).length ≡ record_part work a
unfolding record_at part
record-there work a =
    let p : List ℕ = take a.length work in
    ap (λ (l : List ℕ). take (length p) l) (sym (take-append-drop a.length work)) ∙ take-append_seam p (drop a.length work)
