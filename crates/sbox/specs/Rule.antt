-- The rule of the two byte tables, computed once over all entries. Assumes nothing.
use Rattle.std.specs.Prelude.{◌≡◌, List, Bool, ℕ, ◌<◌, T, eqb, length, get_or}
use Rattle.std.proofs.Common.{◌∙◌, zero-add, arith, eqb→eq}
use Rattle.std.proofs.Math.Path.{ap}
use Rattle.octets.specs.Lists.{table, tabled, get_or-table}
use Rattle.octets.specs.Tests.{every, every-at}
use Rattle.sbox.specs.SubBytes.{sbox}
use Rattle.sbox.specs.InvSubBytes.{inv_sbox}

-- the two tables, by their rule
abbrev pub sbox_table : List ℕ
sbox_table = table sbox 256 0

abbrev pub inv_table : List ℕ
inv_table = table inv_sbox 256 0

-- a list that passes the test at each of its 256 entries is the table
right : (ℕ → ℕ) → ℕ → ℕ → Bool
right f k x = eqb x (f k)

ruled : (f : ℕ → ℕ) (l : List ℕ) → length l ≡ 256 → T (every (right f) 0 l) → l ≡ table f 256 0
unfolding right
ruled f l e t = tabled f 256 0 l 0 (omega arith) (λ k h. eqb→eq (get_or l k 0) (f k) (every-at (right f) l t k h))

abbrev pub Passes : (ℕ → ℕ) → List ℕ → Type 0
Passes f l = T (every (λ k x. eqb x (f k)) 0 l)

pub sbox-ruled : (l : List ℕ) → length l ≡ 256 → Passes sbox l → l ≡ sbox_table
unfolding right
sbox-ruled l e t = ruled sbox l e t

pub inv-ruled : (l : List ℕ) → length l ≡ 256 → Passes inv_sbox l → l ≡ inv_table
unfolding right
inv-ruled l e t = ruled inv_sbox l e t

-- an entry of a table
pub table_at : (f : ℕ → ℕ) (k : ℕ) → k < 256 → get_or (table f 256 0) k 0 ≡ f k
table_at f k h = get_or-table f 256 0 k 0 h ∙ ap f (zero-add k)
