-- The numbers that documents 01 and 02 give to refusals. 7 (unequal B) is not given since T-02.
use Rattle.std.specs.Prelude.{ℕ, Result, Ok, Err}
use Rattle.refusals.specs.declared.Refusal.{Refusal}
use Rattle.refusals.specs.declared.Refusal.TheVariants.{KeySetCount, KeySetRepeated, ShillHandle, ModeCount, ModeRepeated, Record, FreshCount, PadByte, Output, ListCount, ListRepeated, ListOutput, Blocks, NoneOpens, Payload, SealOutput, Response, WorkBuffer, Authentication, KeyLength, ValueLength, ConversionLength, Parity, BadCharacter, Interface}

abbrev pub number_of : Refusal → ℕ
-- Load: "1 count of key sets"
number_of KeySetCount = 1
-- "2 repeated KeySetID"
number_of KeySetRepeated = 2
-- "3 a set with the shill handle"
number_of ShillHandle = 3
-- "4 count of modes"
number_of ModeCount = 4
-- "5 repeated OpModeID"
number_of ModeRepeated = 5
-- "6 area over 1,024, or a record empty, over 64 or outside it"
number_of Record = 6
-- Command: "8 fresh bytes not 253"
number_of FreshCount = 8
-- "9 a zero pad byte"
number_of PadByte = 9
-- "10 output below 256"
number_of Output = 10
-- List: "11 count"
number_of ListCount = 11
-- "12 repeated KeySetID"
number_of ListRepeated = 12
-- "13 output too short"
number_of ListOutput = 13
-- Open: "14 k outside 1 to 16, or a total that is not 256k"
number_of Blocks = 14
-- "15 no block opens"
number_of NoneOpens = 15
-- Seal: "16 payload over 205" (T-04: 205, 189 and 173)
number_of Payload = 16
-- "17 output below Lc + 6"
number_of SealOutput = 17
-- Accept: "18 length not 32, 48, 64, 80 or 96"
number_of Response = 18
-- "19 work buffer shorter than the response"
number_of WorkBuffer = 19
-- "20 not authenticated (padding, body or DivData, one number)"
number_of Authentication = 20
-- T-04: "21 L is none of the three"
number_of KeyLength = 21
-- "22 a key, RND or KeysHash not of L bytes"
number_of ValueLength = 22
-- T-05: "23 wrong length of input, or output too short"
number_of ConversionLength = 23
-- "24 wrong parity, text or record, or a bit set above the 26"
number_of Parity = 24
-- "25 a bad character"
number_of BadCharacter = 25
-- T-06: "26 unknown interface"
number_of Interface = 26

-- The number that a check tells: 0, or that of the refusal.
abbrev pub number_told : {A : Type 0} → Result A Refusal → ℕ
number_told (Ok x) = 0
number_told (Err r) = number_of r
