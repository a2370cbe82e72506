-- The cipher steps of CBC: "A cipher step has AES's own blocks, without the CBC sum."
use Rattle.std.specs.Prelude.{⊤, List, [], ◌∷◌, ℕ, zero, suc, drop}
use Rattle.octets.specs.Lists.{part}
use Rattle.work.specs.Steps.{Step, decipherment, encipherment, counted, sum_from}
use Rattle.work.specs.declared.Made.{Made}
use Rattle.cbc.specs.Cbc.{◌⊕◌}

-- a block x through the cipher, and through its inverse
abbrev pub encipher_step : List ℕ → (List ℕ → List ℕ) → List ℕ → Step
encipher_step key ciph x = record { kind = encipherment; key = key; input = x; output = ciph x }

abbrev pub decipher_step : List ℕ → (List ℕ → List ℕ) → List ℕ → Step
decipher_step key inv x = record { kind = decipherment; key = key; input = x; output = inv x }

-- the steps of encrypting n blocks of s: the input is Pj ⊕ Cj−1, and the output Cj
unfoldable pub enciphered : List ℕ → (List ℕ → List ℕ) → List ℕ → ℕ → List ℕ → List Step
enciphered key ciph iv zero s = []
enciphered key ciph iv (suc n) s =
    let x : List ℕ = part s 0 16 ⊕ iv in
    encipher_step key ciph x ∷ enciphered key ciph (ciph x) n (drop 16 s)

-- the steps of decrypting n blocks of s: the input is Cj, and the output CIPH⁻¹(Cj)
unfoldable pub deciphered : List ℕ → (List ℕ → List ℕ) → ℕ → List ℕ → List Step
deciphered key inv zero s = []
deciphered key inv (suc n) s = decipher_step key inv (part s 0 16) ∷ deciphered key inv n (drop 16 s)

-- what is told of steps of one kind: how many there are, and the work sum after them
abbrev pub made : ℕ → ℕ → List Step → Made ⊤
made kind sum steps = record { value = tt; count = counted kind steps; sum = sum_from sum steps }
