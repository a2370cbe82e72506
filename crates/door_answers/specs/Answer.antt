-- What the program `door` answers to a line of the input.
use Rattle.std.specs.Prelude.{Bool, true, false, cond, List, [], ◌++◌, ℕ, eqb, ltb, length}
use Rattle.conversion.specs.Conversion.{each}
use Rattle.wiegand.specs.Wiegand as wiegand
use Rattle.wiegand_parts.specs.WiegandParts.{facility_of, number_of}
use Rattle.uuids.specs.Uuid as uuid
use Rattle.hexadecimal.specs.Hexadecimal.{is_digit, octets_of, digits_of}
use Rattle.printing.specs.Printing.{ascii, decimal, shown}

-- a number and its reason in words, of a text or of a record
unfoldable pub fault : ℕ → Bool → List ℕ
fault number isRecord =
    cond (eqb number 25) (ascii ": 25, a bad character")
    (cond (eqb number 24) (cond isRecord (ascii ": 24, wrong parity, or a bit set above the 26") (ascii ": 24, wrong parity"))
    (ascii ": 23, wrong length"))

unfoldable pub wrong_length : ℕ → List ℕ
wrong_length n = ascii ": 23, wrong length: " ++ decimal n ++ ascii " bytes, not 26 (Wiegand), 36 (UUID), 8 or 32 (a record)"

-- facility and number of a Wiegand number's record, apart
unfoldable pub apart : List ℕ → List ℕ
apart r = ascii ", facility " ++ decimal (facility_of r) ++ ascii ", number " ++ decimal (number_of r)

-- the four kinds of a line: a conversion's result, or its number
unfoldable pub result : ℕ → List ℕ → Bool → List ℕ
result number made isRecord = cond (eqb number 0) made (fault number isRecord)

unfoldable pub wiegand_text : List ℕ → List ℕ
wiegand_text t = result (wiegand.text_number t 4) (ascii " = record " ++ digits_of (wiegand.record_of t) ++ apart (wiegand.record_of t)) false

unfoldable pub uuid_text : List ℕ → List ℕ
uuid_text t = result (uuid.text_number t 16) (ascii " = record " ++ digits_of (uuid.record_of t)) false

unfoldable pub of_record : List ℕ → List ℕ
of_record r = result (wiegand.record_number r 26) (ascii " = Wiegand " ++ wiegand.text_of r ++ apart r) true

unfoldable pub of_uuid_record : List ℕ → List ℕ
of_uuid_record r = result (uuid.record_number r 36) (ascii " = UUID " ++ uuid.text_of r) true

unfoldable pub in_hexadecimal : List ℕ → (List ℕ → List ℕ) → List ℕ
in_hexadecimal t answer = cond (each is_digit t) (answer (octets_of t)) (fault 25 true)

-- by the line's length; s has the line's first bytes
unfoldable pub verdict : List ℕ → ℕ → List ℕ
verdict s n =
    cond (eqb n 26) (wiegand_text s)
    (cond (eqb n 36) (uuid_text s)
    (cond (eqb n 8) (in_hexadecimal s of_record)
    (cond (eqb n 32) (in_hexadecimal s of_uuid_record)
    (wrong_length n))))

-- the line as it is shown: whole, or its first bytes and two dots
unfoldable pub heading : List ℕ → ℕ → List ℕ
heading s n = shown s ++ cond (ltb (length s) n) (ascii "..") []

unfoldable pub answer : List ℕ → ℕ → List ℕ
answer s n = heading s n ++ verdict s n ++ ascii "\n"
