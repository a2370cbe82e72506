-- Document 01, "The reader", of Open, and of "When an operation declines", its faults; with T-04 of document 02, of keys of l bytes.
use Rattle.std.specs.Prelude.{Bool, cond, ◌&&◌, ◌||◌, not, List, [], ◌∷◌, ℕ, suc, ◌+◌, ◌-◌, ◌*◌, eqb, length, get_or, take, replicate}
use Rattle.octets.specs.Bytes.{same}
use Rattle.octets.specs.Lists.{part}
use Rattle.key_expansion.specs.KeyLength.{is_key_length}
use Rattle.frame.specs.Declines.{no_zero}
use Rattle.load.specs.Load.{miscounted}
use Rattle.plaid_types.specs.Keys.{value_of, no_value, str1_length}
use Rattle.plaid_types.specs.declared.KeySetId.{KeySetId}
use Rattle.reader_open.specs.declared.Opened.{Opened}

-- "it is 00 02, 203 nonzero bytes, 00, and 50 bytes", of a block of 256. T-04: "STR1 is then 50, 66 or 82 bytes, and the pad bytes are 203, 187 or 171
-- of the same 253"
unfoldable pub formed : ℕ → List ℕ → Bool
formed l b =
    eqb (get_or b 0 0) 0 && (eqb (get_or b 1 0) 2 && (no_zero (part b 2 (253 - str1_length l)) && eqb (get_or b (255 - str1_length l) 0) 0))

-- the bytes of STR1
abbrev pub text_of : ℕ → List ℕ → List ℕ
text_of l b = part b (256 - str1_length l) (str1_length l)

-- "STR1 = KeySetID, DivData, RND1, RND1". T-04: "RND1, RND2 and KeysHash have L bytes each"
abbrev pub id_of : List ℕ → KeySetId
id_of t = record { 0 = get_or t 0 0 * 256 + get_or t 1 0 }

abbrev pub div_of : List ℕ → List ℕ
div_of t = part t 2 16

abbrev pub rnd1_of : ℕ → List ℕ → List ℕ
rnd1_of l t = part t 18 l

abbrev pub rnd1_copy : ℕ → List ℕ → List ℕ
rnd1_copy l t = part t (18 + l) l

-- "50 bytes whose KeySetID is that entry's and whose RND1 copies agree"
unfoldable pub agrees : ℕ → KeySetId → List ℕ → Bool
agrees l id t = eqb (id_of t).0 id.0 && same (rnd1_of l t) (rnd1_copy l t)

-- whether a block "opens" for an entry id
unfoldable pub opens_as : ℕ → KeySetId → List ℕ → Bool
opens_as l id b = formed l b && agrees l id (text_of l b)

-- "one decrypted 256-byte block for each listed entry, in order": that of entry i
abbrev pub block_at : List ℕ → ℕ → List ℕ
block_at blocks i = part blocks (256 * i) 256

-- "First to open wins": its place, of entries counted from i; past the last where none opens
abbrev pub first_open : ℕ → List ℕ → ℕ → List KeySetId → ℕ
first_open l blocks i [] = i
first_open l blocks i (k ∷ ids) = cond (opens_as l k (block_at blocks i)) i (first_open l blocks (suc i) ids)

-- the place among the first n entries
abbrev pub winner : ℕ → List KeySetId → ℕ → List ℕ → ℕ
winner l ids n blocks = first_open l blocks 0 (take n ids)

-- "14 k outside 1 to 16, or a total that is not 256k; 15 no block opens". "Where several apply, the first in the order written is given"; 0 where
-- none does. T-04: "21 L is none of the three, first at load, open, seal and accept"
unfoldable pub open_number : ℕ → List KeySetId → ℕ → List ℕ → ℕ
open_number l ids n blocks =
    cond (not (is_key_length l)) 21
    (cond (miscounted 16 n || not (eqb (length blocks) (256 * n))) 14
    (cond (eqb (winner l ids n blocks) n) 15
    0))

abbrev pub no_id : KeySetId
no_id = record { 0 = 0 }

-- where it declines, "its number alone": the rest is 0
abbrev pub number_alone : ℕ → Opened
number_alone k = record { number = k; place = 0; id = no_id; div_data = replicate 16 0; rnd1 = no_value }

-- "Open hands back that entry's place, KeySetID, DivData and RND1": of the entry id at place i
abbrev pub opened_at : ℕ → KeySetId → List ℕ → ℕ → Opened
opened_at l id blocks i =
    record {
      number = 0;
      place = i;
      id = id;
      div_data = div_of (text_of l (block_at blocks i));
      rnd1 = value_of (rnd1_of l (text_of l (block_at blocks i)));
    }

unfoldable pub opened : ℕ → List KeySetId → ℕ → List ℕ → Opened
opened l ids n blocks =
    cond (eqb (open_number l ids n blocks) 0) (opened_at l (get_or ids (winner l ids n blocks) no_id) blocks (winner l ids n blocks)) (number_alone (open_number l ids n blocks))
