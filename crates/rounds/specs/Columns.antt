-- T-03: "each proved equal to FIPS 197's for every state and round key". What four words mean (FIPS 197, section 3.5: the columns of a state
-- are an array of four words): the state of sixteen bytes.
use Rattle.std.specs.Prelude.{List, [], ◌∷◌, ℕ, get_or}
use Rattle.column.specs.Word.{byte_at}
use Rattle.rounds.specs.declared.Columns.{Columns}
use Rattle.rounds.specs.State.{state}

-- word c
abbrev pub column_at : Columns → ℕ → ℕ
column_at s c = get_or (s.c0 ∷ s.c1 ∷ s.c2 ∷ s.c3 ∷ []) c 0

-- the state that four words mean: its byte in row r and column c is byte r of word c
abbrev pub state_of : Columns → List ℕ
state_of s = state (λ r c. byte_at (column_at s c) r)
