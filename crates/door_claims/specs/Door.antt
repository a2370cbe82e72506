-- Document 02, T-05, its sentence on the way there and back, one claim over the four conversions as they are exported. `door-numbers` of `DoorHolds.antt` is
-- its one theorem.
use Rattle.std.specs.Prelude.{◌≡◌, List, ℕ, ◌≤◌, length, take}
use Rattle.octets.specs.Bytes.{Bytes}
use Rattle.conversion.specs.Conversion.{converted, output_after}
use Rattle.conversion.specs.declared.Converted.{Converted}
use Rattle.wiegand.specs.Wiegand as wiegand
use Rattle.uuids.specs.Uuid as uuid

-- a conversion, by the two definitions in its contract: the number for an input and an output of so many bytes, and the result
pub record Conversion : Type 0 where
  pub number : List ℕ → ℕ → ℕ
  pub result : List ℕ → List ℕ

abbrev pub wiegand_record : Conversion
wiegand_record = record { number = wiegand.text_number; result = wiegand.record_of }

abbrev pub wiegand_text : Conversion
wiegand_text = record { number = wiegand.record_number; result = wiegand.text_of }

abbrev pub uuid_record : Conversion
uuid_record = record { number = uuid.text_number; result = uuid.record_of }

abbrev pub uuid_text : Conversion
uuid_text = record { number = uuid.record_number; result = uuid.text_of }

-- what it hands back for the input x and the output `out`, and the bytes that it says it wrote
abbrev pub answer : Conversion → List ℕ → List ℕ → Converted
answer c x out = converted (c.number x (length out)) (c.result x)

abbrev pub written : Conversion → List ℕ → List ℕ → List ℕ
written c x out = take (answer c x out).length (output_after (c.number x (length out)) (c.result x) out)

-- it is not refused
abbrev pub Taken : Conversion → List ℕ → List ℕ → Type 0
Taken c x out = (answer c x out).number ≡ 0

-- what is not refused, turned by c and back by d into an output of at least `size` bytes, is not refused there and is `same` of what it was
abbrev pub Back : Conversion → Conversion → (List ℕ → List ℕ) → ℕ → Type 0
Back c d same size =
    (x out out' : List ℕ) → Bytes x → Taken c x out → size ≤ length out' → Taken d (written c x out) out' × (written d (written c x out) out' ≡ same x)

abbrev unchanged : List ℕ → List ℕ
unchanged x = x

-- the claim
pub record DoorNumbers : Type 0 where
  -- "A record not refused, turned to its door form and back, is the same record"
  pub wiegand-record : Back wiegand_text wiegand_record unchanged 4
  pub uuid-record : Back uuid_text uuid_record unchanged 16
  -- "a text likewise, but for capitals": these are made small
  pub wiegand-text : Back wiegand_record wiegand_text unchanged 26
  pub uuid-text : Back uuid_record uuid_text uuid.small_text 36
  -- "either case read": a text and its small form are refused alike, and give the same record
  pub either-case : (t out : List ℕ) → (answer uuid_record (uuid.small_text t) out).number ≡ (answer uuid_record t out).number
  pub one-record : (t out : List ℕ) → Taken uuid_record t out → written uuid_record (uuid.small_text t) out ≡ written uuid_record t out
  -- a Wiegand record is not refused exactly when it is some text's record
  pub some-text : (r out : List ℕ) → Bytes r → Taken wiegand_text r out → (t out' : List ℕ) × Taken wiegand_record t out' × (written wiegand_record t out' ≡ r)
  pub of-a-text : (t r out out' : List ℕ) → 26 ≤ length out → Taken wiegand_record t out' → written wiegand_record t out' ≡ r → Taken wiegand_text r out
  -- every record of 16 bytes is a UUID's
  pub every-record : (r out : List ℕ) → length r ≡ 16 → 36 ≤ length out → Taken uuid_text r out
