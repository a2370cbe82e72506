-- What the functions inside a conversion return, a result or a refusal, and what is returned for it. No definition of document 02.
use Rattle.std.specs.Prelude.{◌≡◌, List, ℕ, Result, Ok, Err}
use Rattle.octets.specs.Lists.{over}
use Rattle.refusals.specs.Numbers.{number_of}
use Rattle.refusals.specs.declared.Refusal.{Refusal}
use Rattle.conversion.specs.Conversion.{made}
use Rattle.conversion.specs.declared.Converted.{Converted}

-- what is returned for a result or a refusal, and what the output holds then
abbrev pub told : Result (List ℕ) Refusal → Converted
told (Ok s) = made s
told (Err r) = record { number = number_of r; length = 0 }

abbrev pub left : Result (List ℕ) Refusal → List ℕ → List ℕ
left (Ok s) out = over out 0 s
left (Err r) out = out

-- a conversion with this number gives its result, or the refusal of that number
abbrev pub Gives : ℕ → List ℕ → Result (List ℕ) Refusal → Type 0
Gives number result (Ok s) = (number ≡ 0) × (s ≡ result)
Gives number result (Err r) = number ≡ number_of r
