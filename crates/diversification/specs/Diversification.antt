-- Document 002, clause 10, as document 01 has it ("encipher DivData, giving the diversified key") and T-04 of document 02 for longer keys.
use Rattle.std.specs.Prelude.{cond, List, [], ◌∷◌, ◌++◌, ℕ, ltb, length, get_or, set}
use Rattle.std.specs.Int.Bits.{bit_xor}
use Rattle.octets.specs.Lists.{part}
use Rattle.aes.specs.Aes.{aes_under}
use Rattle.work.specs.Steps.{Step}
use Rattle.cbc.specs.Steps.{encipher_step}

-- "DivData with the top bit of its first byte flipped (a house rule)"
unfoldable pub flipped : List ℕ → List ℕ
flipped div = set div 0 (bit_xor (get_or div 0 0) 0x80)

-- "For L over 16 the diversified key is the first L bytes of two enciphered blocks: DivData, then" that; else of DivData's alone. L is the length
-- of the FAKey
unfoldable pub diversified_by : List ℕ → List ℕ → List ℕ
diversified_by fa div = part (aes_under fa div ++ cond (ltb 16 (length fa)) (aes_under fa (flipped div)) []) 0 (length fa)

-- "One encipherment more is made for L over 16, directly after the first."
unfoldable pub diversify_steps : List ℕ → List ℕ → List Step
diversify_steps fa div = encipher_step fa (aes_under fa) div ∷ cond (ltb 16 (length fa)) (encipher_step fa (aes_under fa) (flipped div) ∷ []) []
