-- No refusal has the number 0, which tells that there is none. Assumes nothing.
use Rattle.std.specs.Prelude.{◌<◌}
use Rattle.std.proofs.Common.{lit<}
use Rattle.refusals.specs.declared.Refusal.{Refusal}
use Rattle.refusals.specs.declared.Refusal.TheVariants.{KeySetCount, KeySetRepeated, ShillHandle, ModeCount, ModeRepeated, Record, FreshCount, PadByte, Output, ListCount, ListRepeated, ListOutput, Blocks, NoneOpens, Payload, SealOutput, Response, WorkBuffer, Authentication, KeyLength, ValueLength, ConversionLength, Parity, BadCharacter, Interface}
use Rattle.refusals.specs.Numbers.{number_of}

pub number-some : (r : Refusal) → 0 < number_of r
number-some KeySetCount = lit< tt
number-some KeySetRepeated = lit< tt
number-some ShillHandle = lit< tt
number-some ModeCount = lit< tt
number-some ModeRepeated = lit< tt
number-some Record = lit< tt
number-some FreshCount = lit< tt
number-some PadByte = lit< tt
number-some Output = lit< tt
number-some ListCount = lit< tt
number-some ListRepeated = lit< tt
number-some ListOutput = lit< tt
number-some Blocks = lit< tt
number-some NoneOpens = lit< tt
number-some Payload = lit< tt
number-some SealOutput = lit< tt
number-some Response = lit< tt
number-some WorkBuffer = lit< tt
number-some Authentication = lit< tt
number-some KeyLength = lit< tt
number-some ValueLength = lit< tt
number-some ConversionLength = lit< tt
number-some Parity = lit< tt
number-some BadCharacter = lit< tt
number-some Interface = lit< tt
