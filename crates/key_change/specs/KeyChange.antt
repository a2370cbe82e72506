-- Document 02, T-07: key change while a card is in the slot. A load of key sets onto a card.
use Rattle.std.specs.Prelude.{Bool, false, cond, List, ℕ, eqb, length, take}
use Rattle.plaid_types.specs.Keys.{key_length_of}
use Rattle.plaid_types.specs.Cards.{with_sets}
use Rattle.plaid_types.specs.declared.KeySet.{KeySet}
use Rattle.plaid_types.specs.declared.Card.{Card}
use Rattle.load.specs.Load.{sets_refusal, table_of}
use Rattle.load.specs.declared.Loaded.{Loaded}

-- "A load has a first one's key set checks (1, 22, 2, 3)", of the first n of `sets`, against the card's L and shill handle. No key is given beside them
abbrev pub change_refusal : Card → List KeySet → ℕ → ℕ
change_refusal c sets n = sets_refusal (key_length_of c) sets n false c.shill_handle

-- "A new load of key sets .. changes only the table .., and a refused one keeps the old table"
unfoldable pub changed : Card → List KeySet → ℕ → Loaded
changed c sets n =
    cond (eqb (change_refusal c sets n) 0)
    (record { number = 0; card = with_sets c (table_of (take n sets)) })
    (record { number = change_refusal c sets n; card = c })

-- of the caller's list
unfoldable pub sets_loaded : Card → List KeySet → Loaded
sets_loaded c sets = changed c sets (length sets)

-- whether it is not refused
abbrev pub takes_sets : Card → List KeySet → Bool
takes_sets c sets = eqb (change_refusal c sets (length sets)) 0
