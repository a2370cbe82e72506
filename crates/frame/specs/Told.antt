-- Number and status of a decline, and of what a check answers.
use Rattle.std.specs.Prelude.{◌≡◌, ℕ, Result, Ok, Err}
use Rattle.refusals.specs.declared.Refusal.{Refusal}
use Rattle.refusals.specs.Numbers.{number_of}
use Rattle.frame.specs.declared.Fault.{Fault}
use Rattle.frame.specs.declared.Fault.TheVariants.{WrongLength, WrongClass, WrongInstruction, WrongParameters}
use Rattle.frame.specs.declared.Decline.{Decline}
use Rattle.frame.specs.declared.Decline.TheVariants as decline
use Rattle.frame.specs.Declines.{Verdict}

-- "CLA 6E00; INS 6D00; P1 P2 6A86; any other fault of the frame 6700"
abbrev pub fault_status : Fault → ℕ
fault_status WrongLength = 0x6700
fault_status WrongClass = 0x6E00
fault_status WrongInstruction = 0x6D00
fault_status WrongParameters = 0x6A86

abbrev pub status_told : {A : Type 0} → Result A Fault → ℕ
status_told (Ok x) = 0x9000
status_told (Err s) = fault_status s

-- what `?` makes of a refusal, and of a fault of the frame
abbrev pub FromNumber : Refusal → Decline → Type 0
FromNumber r d = d ≡ decline.Number r

abbrev pub FromFault : Fault → Decline → Type 0
FromFault s d = d ≡ decline.Status s

-- a number has status 0, and a status number 0
abbrev pub decline_told : Decline → Verdict
decline_told (decline.Number r) = record { number = number_of r; status = 0 }
decline_told (decline.Status s) = record { number = 0; status = fault_status s }

abbrev pub verdict_told : {A : Type 0} → Result A Decline → Verdict
verdict_told (Ok x) = record { number = 0; status = 0x9000 }
verdict_told (Err d) = decline_told d
