-- `sha256::to_bytes` meets its contract. The loop's invariant: the first 4 i bytes are those of the first i words.
-- Assumes nothing.
use Rattle.std.proofs.Common.{◌≡◌, List, [], ◌++◌, ℕ, zero, suc, ◌*◌, length, get_or, take}
use Rattle.sha_words.specs.Words.{word_bytes}
use Rattle.sha256.proofs.to_bytes.Given as goal

-- the bytes of the first n words
abbrev pub words : List ℕ → ℕ → List ℕ
words h zero = []
words h (suc n) = words h n ++ word_bytes (get_or h n 0)

abbrev pub invariant-loop-i : goal.invariant-loop-i
invariant-loop-i l = (length l.d ≡ 32) × (take (4 * l.i) l.d ≡ words l.h l.i)
