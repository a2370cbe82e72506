-- Successful loads, closed, for the claims' examples: key sets and modes by their numbers. Assumes nothing.
use Rattle.std.specs.Prelude.{◌≡◌, refl, true, List, [], ◌∷◌, ◌++◌, ℕ, zero, suc, ◌+◌, ◌-◌, ◌<◌, ◌≤◌, length, get_or, replicate}
use Rattle.std.proofs.Common.{◌∙◌, arith, eq-eqb, ne_eqb, le-ltb, length-append}
use Rattle.std.proofs.lemmas.List.{length-replicate}
use Rattle.octets.specs.Bytes.{Bytes, Block}
use Rattle.octets.specs.ByteLists.{append-bytes}
use Rattle.key_expansion.specs.KeyLength.{is_key_length}
use Rattle.plaid_types.specs.declared.Value.{Value}
use Rattle.plaid_types.specs.declared.KeySet.{KeySet}
use Rattle.plaid_types.specs.declared.Mode.{Mode}
use Rattle.load.specs.Load.{past_set, past_mode, refusal, sets_refusal, modes_refusal, loaded}
use Rattle.plaid.specs.Interface.{load_of}
use Rattle.plaid.specs.declared.Given.{Given}
use Rattle.claims.specs.Load.{Load, Typed, TypedValue}

pub same_bytes : (n x : ℕ) → x < 256 → Bytes (replicate n x)
same_bytes zero x h i = omega arith
same_bytes (suc n) x h zero = h
same_bytes (suc n) x h (suc i) = same_bytes n x h i

pub block_of : (x : ℕ) → x < 256 → Block (replicate 16 x)
block_of x h = record { long = refl; byte = same_bytes 16 x h }

-- a key of L = l bytes, each x
abbrev pub key : ℕ → ℕ → Value
key l x = record { length = l; bytes = replicate 32 x }

pub key_of : (l x : ℕ) → x < 256 → TypedValue (key l x)
key_of l x h = record { long = refl; byte = same_bytes 32 x h }

unfoldable pub set : ℕ → ℕ → KeySet
set l k = record { id = record { 0 = k }; handle = k; fa_key = key l k }

-- mode k, with a record of n bytes from m on
unfoldable pub mode : ℕ → ℕ → ℕ → Mode
mode k m n = record { id = record { 0 = k }; start = m; len = n }

unfoldable pub given : ℕ → List Mode → Given
given l ms =
    record {
      modes = ms ++ replicate (16 - length ms) past_mode;
      mode_count = length ms;
      div_data = replicate 16 0xD1;
      shill_key = key l 0x55;
      shill_handle = 99;
      key_length = l;
    }

unfoldable pub area : ℕ → ℕ → List ℕ
area m n = replicate m 0xAA ++ replicate n 0xBB

pub typed : (l : ℕ) (sets : List KeySet) (ms : List Mode) (m n : ℕ) → length ms ≤ 16 → ((i : ℕ) → i < length sets → TypedValue (get_or sets i past_set).fa_key) →
    Typed sets (given l ms) (area m n)
unfolding given area
typed l sets ms m n h keys =
    record {
      modes = length-append ms (replicate (16 - length ms) past_mode) ∙ omega (arith, length-replicate (16 - length ms) past_mode);
      div = block_of 0xD1 (omega arith);
      key = key_of l 0x55 (omega arith);
      keys = keys;
      area-bytes = append-bytes (replicate m 0xAA) (replicate n 0xBB) (same_bytes m 0xAA (omega arith)) (same_bytes n 0xBB (omega arith));
    }

unfoldable pub load-of :
    (l : ℕ) (sets : List KeySet) (ms : List Mode) (m n : ℕ) → length ms ≤ 16 → ((i : ℕ) → i < length sets → TypedValue (get_or sets i past_set).fa_key) →
    (load_of sets (given l ms) (area m n)).number ≡ 0 → Load
load-of l sets ms m n h keys e = record { sets = sets; given = given l ms; area = area m n; typed = typed l sets ms m n h keys; success = e }

-- one set, and two
pub one_key : (l a : ℕ) → a < 256 → (i : ℕ) → i < 1 → TypedValue (get_or (set l a ∷ []) i past_set).fa_key
unfolding set
one_key l a h zero p = key_of l a h
one_key l a h (suc i) p = absurd (omega arith)

pub two-keys : (l a b : ℕ) → a < 256 → b < 256 → (i : ℕ) → i < 2 → TypedValue (get_or (set l a ∷ set l b ∷ []) i past_set).fa_key
unfolding set
two-keys l a b ha hb zero p = key_of l a ha
two-keys l a b ha hb (suc zero) p = key_of l b hb
two-keys l a b ha hb (suc (suc i)) p = absurd (omega arith)

-- set 1, with keys of k bytes, and mode 7, with a record of n
unfoldable pub load_one : (k n : ℕ) → is_key_length k ≡ true → 0 < n → n ≤ 64 → Load
unfolding set mode given area load_of loaded refusal sets_refusal modes_refusal
load_one k n three h m =
    let z : length (replicate {A = ℕ} n 0xBB) ≡ n = length-replicate n 0xBB in
    load-of k (set k 1 ∷ []) (mode 7 0 n ∷ []) 0 n (omega arith) (one_key k 1 (omega arith))
    (rw (three, eq-eqb k k refl, z, le-ltb 1024 n (omega arith), ne_eqb n 0 (λ q. omega arith), le-ltb 64 n m, le-ltb n (0 + n) (omega arith)))
