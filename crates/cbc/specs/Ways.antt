-- The two ways of CBC as one: what each makes of a block, what it chains to the next, and its steps. Cbc.antt and Steps.antt give them one by one. Assumes nothing.
use Rattle.std.specs.Prelude.{List, ℕ}
use Rattle.work.specs.Steps.{Step, decipherment, encipherment}
use Rattle.aes.specs.Aes.{cipher_by, inv_cipher_by}
use Rattle.cbc.specs.declared.Way.{Way}
use Rattle.cbc.specs.declared.Way.TheVariants.{Encipher, Decipher}
use Rattle.cbc.specs.Cbc.{◌⊕◌}
use Rattle.cbc.specs.Steps.{enciphered, deciphered}
use Rattle.cbc.specs.Laws.{link, unlink, taken}

abbrev pub kind_of : Way → ℕ
kind_of (Encipher t) = encipherment
kind_of (Decipher t) = decipherment

-- the cipher under the round keys w, or its inverse
abbrev pub cipher_of : Way → List (List ℕ) → List ℕ → List ℕ
cipher_of (Encipher t) w = cipher_by w
cipher_of (Decipher t) w = inv_cipher_by w

-- what goes into it of the block b, after the chained block c
abbrev pub input_of : Way → List ℕ → List ℕ → List ℕ
input_of (Encipher t) c b = b ⊕ c
input_of (Decipher t) c b = b

-- the block that is made of b
abbrev pub out : Way → List (List ℕ) → List ℕ → List ℕ → List ℕ
out (Encipher t) w = link (cipher_by w)
out (Decipher t) w = unlink (inv_cipher_by w)

-- the block that the next one is chained to
abbrev pub next : Way → List (List ℕ) → List ℕ → List ℕ → List ℕ
next (Encipher t) w = link (cipher_by w)
next (Decipher t) w = taken

abbrev pub step_of : Way → List ℕ → List (List ℕ) → List ℕ → List ℕ → Step
step_of v key w c b = record { kind = kind_of v; key = key; input = input_of v c b; output = cipher_of v w (input_of v c b) }

-- the steps of n blocks of s
abbrev pub steps_of : Way → List ℕ → List (List ℕ) → List ℕ → ℕ → List ℕ → List Step
steps_of (Encipher t) key w = enciphered key (cipher_by w)
steps_of (Decipher t) key w = λ c. deciphered key (inv_cipher_by w)
