-- Document 01, "The card": a load as the personaliser makes it, through the exported `plaid_load`; and by T-07 the key sets of its card behind a list.
use Rattle.std.specs.Prelude.{◌≡◌, cond, List, [], ◌∷◌, ℕ, ◌<◌, length, get_or}
use Rattle.octets.specs.Bytes.{Bytes, Block}
use Rattle.octets.specs.Lists.{part}
use Rattle.plaid_types.specs.Cards.{with_tries}
use Rattle.plaid_types.specs.declared.Value.{Value}
use Rattle.plaid_types.specs.declared.KeySet.{KeySet}
use Rattle.plaid_types.specs.declared.Tries.{Tries}
use Rattle.plaid_types.specs.declared.Card.{Card}
use Rattle.load.specs.Load.{past_set, past_mode}
use Rattle.key_change.specs.KeyChange.{takes_sets}
use Rattle.final_command.specs.Final.{body_of}
use Rattle.card.specs.Lists.{Place, command, key_sets}
use Rattle.plaid.specs.Interface.{load_of}
use Rattle.plaid.specs.declared.Given.{Given}

-- what the type of a key, RND or KeysHash says (T-04): an array of 32 bytes
pub record TypedValue (v : Value) : Type 0 where
  pub long : length v.bytes ≡ 32
  pub byte : Bytes v.bytes

-- of key sets
abbrev pub TypedSets : List KeySet → Type 0
TypedSets sets = (i : ℕ) → i < length sets → TypedValue (get_or sets i past_set).fa_key

-- what the types of its arguments say: an array of sixteen modes, DivData of sixteen bytes, keys, and an area of bytes
pub record Typed (sets : List KeySet) (given : Given) (area : List ℕ) : Type 0 where
  pub modes : length given.modes ≡ 16
  pub div : Block given.div_data
  pub key : TypedValue given.shill_key
  pub keys : TypedSets sets
  pub area-bytes : Bytes area

-- "a successful load", number 0: "A load gives 1 to 8 key sets .., 1 to 16 modes .., DivData .., a shill AES key and a shill RSA handle", and a record
-- area
pub record Load : Type 0 where
  pub sets : List KeySet
  pub given : Given
  pub area : List ℕ
  pub typed : Typed sets given area
  pub success : (load_of sets given area).number ≡ 0

-- the card that it returned
abbrev pub card_of : Load → Card
card_of l = (load_of l.sets l.given l.area).card

-- T-06: the same card with the failed tries t
abbrev pub card_with : Load → Tries → Card
card_with l t = with_tries (card_of l) t

-- T-07: the key sets of the table behind the places ps of a list, from those of the load on: "a refused [load] keeps the old table", and L and shill
-- handle, against which they are checked, are the load's
unfoldable pub sets_after : Card → List KeySet → List Place → List KeySet
sets_after c sets [] = sets
sets_after c sets (command x ∷ ps) = sets_after c sets ps
sets_after c sets (key_sets s ∷ ps) = sets_after c (cond (takes_sets c s) s sets) ps

abbrev pub sets_at : Load → List Place → List KeySet
sets_at l ps = sets_after (card_of l) l.sets ps

-- what the types of a list's loads of key sets say
unfoldable pub TypedPlaces : List Place → Type 0
TypedPlaces [] = Unit
TypedPlaces (command x ∷ ps) = TypedPlaces ps
TypedPlaces (key_sets s ∷ ps) = TypedSets s × TypedPlaces ps

-- the record of its mode number i, counted from 0: "start and length in a record area"
abbrev pub record_given : Load → ℕ → List ℕ
record_given l i = part l.area (get_or l.given.modes i past_mode).start (get_or l.given.modes i past_mode).len

-- T-01: with the "payload of zero bytes up to 16(B − 2) bytes in all" that follows a shorter one
abbrev pub body_given : Load → ℕ → List ℕ
body_given l i = body_of (record_given l i) (card_of l).reply_size
