-- Document 01, "Work sum": what each kind of step has as key, input and output. (A cipher step's are in the crate cbc.)
use Rattle.std.specs.Prelude.{Bool, true, cond, ◌&&◌, ℕ, suc, ◌/◌, ◌%◌, eqb, length}
use mathlib.Core.List.{List, [], ◌∷◌, ◌++◌, flatten}
use Rattle.octets.specs.Lists.{table}
use Rattle.key_expansion.specs.KeyExpansion.{round_keys}
use Rattle.sha_padding.specs.Parsing.{blocks, block_at}
use Rattle.sha_block.specs.Hash.{state_after, digest_bytes}
use Rattle.work.specs.Steps.{Step, comparison, expansion, hash_block}
use Rattle.plaid_types.specs.declared.KeySetId.{KeySetId}
use Rattle.plaid_types.specs.declared.OpModeId.{OpModeId}

-- "An expansion has the key, no input, and the round keys as output", of a key of 4 Nk bytes
abbrev pub expansion_step : List ℕ → Step
expansion_step k = record { kind = expansion; key = k; input = []; output = flatten (round_keys (length k / 4) k) }

-- "A hash block has no key, its 64 bytes as input, and the 32 bytes of state after it as output." The block that has i before it
abbrev pub hash_step : List ℕ → ℕ → Step
hash_step m i = record { kind = hash_block; key = []; input = block_at m i; output = digest_bytes (state_after m (suc i)) }

-- the hash of a message: one step for each block of the padded message
unfoldable pub hash_steps : List ℕ → List Step
hash_steps m = table (hash_step m) (blocks m) 0

-- "its input is the place's or text's value and then the slot's, no bytes for one that is missing or empty"
abbrev pub shown : Bool → ℕ → List ℕ
shown present v = cond present (v / 256 ∷ v % 256 ∷ []) []

-- a missing place and an empty slot "never match"
abbrev pub matched : Bool → ℕ → Bool → ℕ → Bool
matched present v held w = present && (held && eqb v w)

-- "its output is 1 for a match, else 0"
abbrev pub bit_of : Bool → ℕ
bit_of hit = cond hit 1 0

-- "A comparison has no key"
abbrev pub comparison_step : Bool → ℕ → Bool → ℕ → Step
comparison_step present v held w = record { kind = comparison; key = []; input = shown present v ++ shown held w; output = bit_of (matched present v held w) ∷ [] }

-- "a key set number is never taken where a mode number belongs": a place's value and a key set slot's
abbrev pub set_matched : Bool → KeySetId → Bool → KeySetId → Bool
set_matched present v held w = matched present v.0 held w.0

abbrev pub set_comparison : Bool → KeySetId → Bool → KeySetId → Step
set_comparison present v held w = comparison_step present v.0 held w.0

-- a text's value, which is never missing, and a mode slot's
abbrev pub mode_matched : OpModeId → Bool → OpModeId → Bool
mode_matched v held w = matched true v.0 held w.0

abbrev pub mode_comparison : OpModeId → Bool → OpModeId → Step
mode_comparison v held w = comparison_step true v.0 held w.0

-- the first match so far: `first` where there is one (it is below n), else i where i matches, else n
abbrev pub kept : ℕ → ℕ → ℕ → Bool → ℕ
kept n first i hit = cond (eqb first n) (cond hit i n) first
