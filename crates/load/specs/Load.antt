-- Document 01, "The card", of a load, and of "When an operation declines", the faults of a load; with T-01, T-04 and T-07 of document 02.
use Rattle.std.specs.Prelude.{Bool, true, false, cond, not, ◌||◌, List, [], ◌∷◌, ◌++◌, map, ℕ, ◌+◌, ◌-◌, eqb, ltb, length, take, replicate}
use Rattle.padding.specs.Method2.{blocks_for}
use Rattle.key_expansion.specs.KeyLength.{is_key_length}
use Rattle.plaid_types.specs.Keys.{wide, bytes_of, no_value, of_length}
use Rattle.plaid_types.specs.Tries.{no_tries}
use Rattle.plaid_types.specs.Cards.{no_set, no_mode, no_session}
use Rattle.plaid_types.specs.declared.Value.{Value}
use Rattle.plaid_types.specs.declared.KeySet.{KeySet}
use Rattle.plaid_types.specs.declared.KeySetSlot.{KeySetSlot}
use Rattle.plaid_types.specs.declared.Mode.{Mode}
use Rattle.plaid_types.specs.declared.ModeSlot.{ModeSlot}
use Rattle.plaid_types.specs.declared.Card.{Card}
use Rattle.load.specs.declared.Loaded.{Loaded}

-- what a list of key sets or of modes gives past its end
abbrev pub past_set : KeySet
past_set = record { id = record { 0 = 0 }; handle = 0; fa_key = record { length = 0; bytes = [] } }

abbrev pub past_mode : Mode
past_mode = record { id = record { 0 = 0 }; start = 0; len = 0 }

-- whether p holds of some element
abbrev pub some : {A : Type 0} → (A → Bool) → List A → Bool
some p [] = false
some p (x ∷ xs) = p x || some p xs

-- "1 to 8 key sets", "1 to 16 modes": a count that is not from 1 to the most
abbrev pub miscounted : ℕ → ℕ → Bool
miscounted most n = eqb n 0 || ltb most n

-- "repeated KeySetID", "repeated OpModeID": some number stands again behind itself
abbrev pub repeated : List ℕ → Bool
repeated [] = false
repeated (x ∷ xs) = some (eqb x) xs || repeated xs

abbrev pub set_ids : List KeySet → List ℕ
set_ids = map (λ (k : KeySet). k.id.0)

abbrev pub mode_ids : List Mode → List ℕ
mode_ids = map (λ (m : Mode). m.id.0)

-- T-04: "22 a key .. not of L bytes", of the FAKeys of key sets
abbrev pub wrong_keys : ℕ → List KeySet → Bool
wrong_keys l = some (λ (k : KeySet). not (of_length l k.fa_key))

-- "a set with the shill handle"
abbrev pub with_handle : ℕ → List KeySet → Bool
with_handle handle = some (λ (k : KeySet). eqb k.handle handle)

-- "A record is 1 to 64 bytes"; "a record empty, over 64 or outside" an area of so many bytes
abbrev pub bad_record : ℕ → Mode → Bool
bad_record area m = eqb m.len 0 || (ltb 64 m.len || ltb area (m.start + m.len))

-- "Reply size B = floor((record length + 16)/16) + 1": the blocks that the record takes with 16 more bytes
abbrev pub reply_size_for : ℕ → ℕ
reply_size_for len = blocks_for (len + 16)

-- T-01: "B becomes the largest that any record needs." 0 without a record
abbrev pub larger : ℕ → ℕ → ℕ
larger a b = cond (ltb a b) b a

abbrev pub largest_size : List Mode → ℕ
largest_size [] = 0
largest_size (m ∷ ms) = larger (reply_size_for m.len) (largest_size ms)

-- "4 count of modes; 5 repeated OpModeID; 6 area over 1,024, or a record empty, over 64 or outside it", of the first m of `modes` and an area of
-- so many bytes. 0 where none applies. T-01: "Load refusal 7 no longer occurs."
unfoldable pub modes_refusal : List Mode → ℕ → ℕ → ℕ
modes_refusal modes m area =
    cond (miscounted 16 m) 4
    (cond (repeated (mode_ids (take m modes))) 5
    (cond (ltb 1024 area || some (bad_record area) (take m modes)) 6
    0))

-- T-07: "a first one's key set checks (1, 22, 2, 3)", of the first n of `sets`: "1 count of key sets; 2 repeated KeySetID; 3 a set with the shill
-- handle", and by T-04 "22 a key .. not of L bytes, directly after 1". `other` is whether a key that is given beside the sets is not. 0 where none
-- applies
unfoldable pub sets_refusal : ℕ → List KeySet → ℕ → Bool → ℕ → ℕ
sets_refusal l sets n other handle =
    cond (miscounted 8 n) 1
    (cond (wrong_keys l (take n sets) || other) 22
    (cond (repeated (set_ids (take n sets))) 2
    (cond (with_handle handle (take n sets)) 3
    0)))

-- "Where several apply, the first in the order written is given": a number, or where it is 0 the next
abbrev pub or_else : ℕ → ℕ → ℕ
or_else a b = cond (eqb a 0) b a

-- the checks of the key sets, then those above. T-04: "21 L is none of the three, first at load ..; 22 a key .. not of L bytes", the shill key too
unfoldable pub refusal : ℕ → List KeySet → ℕ → List Mode → ℕ → ℕ → Value → ℕ → ℕ
refusal l sets n modes m area key handle =
    cond (not (is_key_length l)) 21 (or_else (sets_refusal l sets n (not (of_length l key)) handle) (modes_refusal modes m area))

-- "Key sets and modes fill their slots from the first on, in the order given; the rest are empty": l, and d behind it up to n. Shut: with a
-- numeral for n the library's own replicate computes to as many elements
unfoldable pub filled : {A : Type 0} → ℕ → A → List A → List A
filled n d l = l ++ replicate (n - length l) d

-- T-04: "Cards with 24 and 32-byte keys": a slot holds the FAKey's bytes, with zeros behind them
abbrev pub set_slot : KeySet → KeySetSlot
set_slot k = record { held = true; id = k.id; handle = k.handle; fa_key = wide (bytes_of k.fa_key) }

-- the table of key sets
unfoldable pub table_of : List KeySet → List KeySetSlot
table_of sets = filled 8 no_set (map set_slot sets)

abbrev pub mode_slot : Mode → ModeSlot
mode_slot m = record { held = true; id = m.id; start = m.start; len = m.len }

-- "they and the record area, at most 1,024 bytes, are copied into the card"; "DivData (16 bytes), a shill AES key and a shill RSA handle"; "A new
-- card has" no session. The area is followed by zeros. T-04: "A card and its reader have one key length L", which it
-- keeps. T-06: "from 0 on a new card"
unfoldable pub loaded_card : ℕ → List KeySet → List Mode → List ℕ → List ℕ → Value → ℕ → Card
loaded_card l sets modes area div key handle =
    record {
      sets = table_of sets;
      modes = filled 16 no_mode (map mode_slot modes);
      area = filled 1024 0 area;
      div_data = div;
      shill_key = wide (bytes_of key);
      shill_handle = handle;
      key_length = l;
      reply_size = largest_size modes;
      session = no_session;
      tries = no_tries;
    }

-- what stands in the place of a card where a load is refused: all slots empty, all numbers 0
unfoldable pub blank_card : Card
blank_card = loaded_card 0 [] [] [] (replicate 16 0) no_value 0

-- "No card results" where a load is refused; else the number is 0
unfoldable pub loaded : ℕ → List KeySet → ℕ → List Mode → ℕ → List ℕ → List ℕ → Value → ℕ → Loaded
loaded l sets n modes m area div key handle =
    cond (eqb (refusal l sets n modes m (length area) key handle) 0)
    (record { number = 0; card = loaded_card l (take n sets) (take m modes) area div key handle })
    (record { number = refusal l sets n modes m (length area) key handle; card = blank_card })
