-- Document 01, "The reader", of List, and of "When an operation declines", its faults.
use Rattle.std.specs.Prelude.{cond, List, [], ◌∷◌, ◌++◌, map, ℕ, eqb, ltb, length, take}
use Rattle.octets.specs.Lists.{over}
use Rattle.list.specs.Encoding.{encoded}
use Rattle.load.specs.Load.{miscounted, repeated}
use Rattle.plaid_types.specs.declared.KeySetId.{KeySetId}
use Rattle.reader_list.specs.declared.Written.{Written}

abbrev pub numbers : List KeySetId → List ℕ
numbers = map (λ (k : KeySetId). k.0)

-- "Its .. KeySetIDs in order of preference": those given are the first n
abbrev pub given : List KeySetId → ℕ → List ℕ
given ids n = take n (numbers ids)

-- the KeySetIDs ids, "short forms only", framed as an initial command: 00 87 00 00 Lc, the Lc bytes of the list, 00
unfoldable pub list_command : List ℕ → List ℕ
list_command ids = 0 ∷ 0x87 ∷ 0 ∷ 0 ∷ length (encoded ids) ∷ (encoded ids ++ (0 ∷ []))

-- "11 count; 12 repeated KeySetID; 13 output too short", "1 to 16 KeySetIDs"; the output has `room` bytes. "Where several apply, the first in the
-- order written is given"; 0 where none does
unfoldable pub list_number : List KeySetId → ℕ → ℕ → ℕ
list_number ids n room =
    cond (miscounted 16 n) 11
    (cond (repeated (given ids n)) 12
    (cond (ltb room (length (list_command (given ids n)))) 13
    0))

-- "it hands back that length"; where it declines, "its number alone": the length is 0
unfoldable pub listed : List KeySetId → ℕ → ℕ → Written
listed ids n room =
    cond (eqb (list_number ids n room) 0)
    (record { number = 0; length = length (list_command (given ids n)) })
    (record { number = list_number ids n room; length = 0 })

-- "a decline writes nothing"; "List .., when they succeed, write the bytes of their command and no others": what the output holds afterwards
unfoldable pub list_output : List KeySetId → ℕ → List ℕ → List ℕ
list_output ids n out = cond (eqb (list_number ids n (length out)) 0) (over out 0 (list_command (given ids n))) out
