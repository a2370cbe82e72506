-- Document 01, "Initial": the list of KeySetIDs in the data of an initial command; its lengths as T-02 of document 02 has them, in BER (ITU-T X.690, 8.1.3).
use Rattle.std.specs.Prelude.{Bool, cond, ◌&&◌, Option, Some, None, Result, Ok, Err, is_ok, List, [], ◌∷◌, ℕ, zero, suc, ◌+◌, ◌*◌, ◌-◌, ◌/◌, ◌^◌, eqb, ltb, leb, length, get_or}
use Rattle.octets.specs.Lists.{part}
use Rattle.plaid_types.specs.declared.KeySetId.{KeySetId}
use Rattle.list.specs.declared.Length.{Length}
use Rattle.list.specs.declared.Entry.{Entry}
use Rattle.list.specs.declared.Form.{Form}
use Rattle.list.specs.declared.Form.TheVariants.{Definite, Indefinite}
use Rattle.list.specs.declared.Outer.{Outer}

-- X.690, 8.1.3.5: bytes as "an unsigned binary integer", the first the most significant. A number of any size, so leading zero bytes add nothing
unfoldable pub unsigned : List ℕ → ℕ
unsigned [] = 0
unsigned (b ∷ s) = b * 256 ^ length s + unsigned s

-- "every definite length whose value fits the data": the value v, if so many bytes of the data are there, from place n on
unfoldable pub fitting : List ℕ → ℕ → ℕ → Option Length
fitting d v n = cond (leb (n + v) (length d)) (Some (record { value = v; next = n })) None

-- "leading zero bytes allowed, but not the first byte FF": the definite length at place p, in the short form (00 to 7F, which is the value) or the long
-- one (81 to FE: so many bytes follow, and they are the value). 80 is the indefinite form
unfoldable pub length_at : List ℕ → ℕ → Option Length
length_at d p =
    let b : ℕ = get_or d p 0 in
    cond (ltb b 0x80) (fitting d b (p + 1))
    (cond (ltb 0x80 b && ltb b 0xFF) (fitting d (unsigned (part d (p + 1) (b - 0x80))) (p + 1 + (b - 0x80))) None)

-- the entry with its length: two bytes, the KeySetID
abbrev pub entry_of : List ℕ → Option Length → Option Entry
entry_of d None = None
entry_of d (Some l) = cond (eqb l.value 2) (Some (record { id = record { 0 = get_or d l.next 0 * 256 + get_or d (l.next + 1) 0 }; next = l.next + 2 })) None

-- "entries of tag 04, length 2, KeySetID", and "entries stay primitive": the entry at place p, with the place after it
unfoldable pub entry_at : List ℕ → ℕ → Option Entry
entry_at d p = cond (eqb (get_or d p 0) 4) (entry_of d (length_at d (p + 1))) None

-- the place after an entry at place p; where there is none, p itself
abbrev pub next_place : ℕ → Option Entry → ℕ
next_place p None = p
next_place p (Some e) = e.next

-- the KeySetID of an entry; where there is none, 0
abbrev pub entry_id : Option Entry → KeySetId
entry_id None = record { 0 = 0 }
entry_id (Some e) = e.id

-- a definite length that says just what is left of the data
abbrev pub head_of : List ℕ → Option Length → Option Outer
head_of d None = None
head_of d (Some l) = cond (eqb (l.next + l.value) (length d)) (Some (record { form = Definite; first = l.next })) None

-- "tag 30, length", a definite one that says just what is left of the data; and "It also takes the indefinite form of the outer SEQUENCE", 80
unfoldable pub head : List ℕ → Option Outer
head d =
    cond (eqb (get_or d 0 0) 0x30)
    (cond (eqb (get_or d 1 0) 0x80) (Some (record { form = Indefinite; first = 2 })) (head_of d (length_at d 1)))
    None

-- "The list is walked entry by entry": the place that is reached after n entries from p on. A place with no entry is not passed
unfoldable pub walked : List ℕ → ℕ → ℕ → ℕ
walked d p zero = p
walked d p (suc n) = walked d (next_place p (entry_at d p)) n

-- "Compared places remain floor(Lc/4)": an entry takes four bytes or more, so no list has more
abbrev pub place_count : List ℕ → ℕ
place_count d = length d / 4

-- "two zero bytes at the end" of the indefinite form, and then nothing; after a definite length nothing at once
unfoldable pub ended : List ℕ → Form → ℕ → Bool
ended d Definite p = eqb p (length d)
ended d Indefinite p = eqb (p + 2) (length d) && (eqb (get_or d p 0) 0 && eqb (get_or d (p + 1) 0) 0)

-- where the entries start: Ok if there is a head and the walk ends at the entries' end, else Err; without a head that place is 0
abbrev pub listed_from : List ℕ → Option Outer → Result ℕ ℕ
listed_from d None = Err 0
listed_from d (Some h) = cond (ended d h.form (walked d h.first (place_count d))) (Ok h.first) (Err h.first)

-- "Anything else, or bytes left over, makes the list malformed": Err
unfoldable pub listed : List ℕ → Result ℕ ℕ
listed d = listed_from d (head d)

-- whether a list is well formed, and where its entries start, whichever it is
abbrev pub is_formed : List ℕ → Bool
is_formed d = is_ok (listed d)

abbrev pub start_of : Result ℕ ℕ → ℕ
start_of (Ok p) = p
start_of (Err p) = p

abbrev pub first_entry : List ℕ → ℕ
first_entry d = start_of (listed d)
