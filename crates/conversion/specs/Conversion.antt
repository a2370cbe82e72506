-- Document 02, T-05: what a conversion to or from a door number returns, and what the output holds afterwards.
use Rattle.std.specs.Prelude.{Bool, true, cond, ◌&&◌, ◌||◌, not, List, [], ◌∷◌, ℕ, eqb, ltb, length}
use Rattle.octets.specs.Lists.{over}
use Rattle.conversion.specs.declared.Converted.{Converted}

-- "23 wrong length of input, or output too short": the input has n bytes and not `wanted`, or the output `room` bytes and the result more
unfoldable pub misfit : ℕ → ℕ → ℕ → ℕ → Bool
misfit n wanted room result = not (eqb n wanted) || ltb room result

-- number and length of a result that is made
abbrev pub made : List ℕ → Converted
made result = record { number = 0; length = length result }

-- the result's length where the number is 0; else the number alone, and the length is 0
unfoldable pub converted : ℕ → List ℕ → Converted
converted number result = cond (eqb number 0) (made result) (record { number = number; length = 0 })

-- "Success here and later writes its result alone", and a decline writes nothing: what the output holds afterwards
unfoldable pub output_after : ℕ → List ℕ → List ℕ → List ℕ
output_after number result out = cond (eqb number 0) (over out 0 result) out

-- p holds of every element
abbrev pub each : (ℕ → Bool) → List ℕ → Bool
each p [] = true
each p (c ∷ s) = p c && each p s
