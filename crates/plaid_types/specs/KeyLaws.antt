-- Laws of keys of L bytes. Assumes nothing.
use Rattle.std.specs.Prelude.{◌≡◌, refl, Bool, true, false, cond, List, ℕ, ◌+◌, ◌≤◌, eqb, length, replicate, take, drop}
use Rattle.std.proofs.Common.{sym, ap, ◌∙◌, arith, ne_eqb, eqb-true, length-append, length-drop, take_at}
use Rattle.std.proofs.lemmas.List.{length-replicate}
use Rattle.octets.specs.Lists.{part, over, length_part}
use Rattle.key_expansion.specs.KeyLength.{is_key_length, length_most}
use Rattle.plaid_types.specs.Keys.{lawful, wide, held, bytes_of, value_of, str1_length}
use Rattle.plaid_types.specs.declared.Value.{Value}

lawful-cases : (l : ℕ) (t : Bool) → is_key_length l ≡ t → is_key_length (cond t l 16) ≡ true
unfolding is_key_length
lawful-cases l true e = e
lawful-cases l false e = refl

-- L of a card is one of the three
pub lawful-one : (l : ℕ) → is_key_length (lawful l) ≡ true
unfolding lawful
lawful-one l = lawful-cases l (is_key_length l) refl

pub lawful-most : (l : ℕ) → lawful l ≤ 32
lawful-most l = length_most (lawful l) (lawful-one l)

-- a number that is none of the first two is a key length where it is the last
pub length_last : (n : ℕ) → (n ≡ 16 → ⊥) → (n ≡ 24 → ⊥) → eqb n 32 ≡ is_key_length n
unfolding is_key_length
length_last n a b = rw (ne_eqb n 16 a, ne_eqb n 24 b)

pub length-else : (n : ℕ) → is_key_length n ≡ true → (n ≡ 16 → ⊥) → (n ≡ 24 → ⊥) → n ≡ 32
length-else n e a b = eqb-true n 32 (length_last n a b ∙ e)

pub lawful-is : (l : ℕ) (t : Bool) → t ≡ is_key_length l → t ≡ true → l ≡ lawful l
unfolding lawful
lawful-is l t e h = rw (sym e ∙ h)

pub lawful-else : (l : ℕ) (t : Bool) → t ≡ is_key_length l → t ≡ false → 16 ≡ lawful l
unfolding lawful
lawful-else l t e h = rw (sym e ∙ h)

pub length-wide : (k : List ℕ) → length k ≤ 32 → length (wide k) ≡ 32
unfolding wide over
length-wide k h = length-append k (drop (0 + length k) (replicate 32 0)) ∙ omega (arith, length-drop {A = ℕ} (0 + length k) (replicate 32 0), length-replicate {A = ℕ} 32 0)

-- what is held wide is k
pub held-wide : (l : ℕ) (k : List ℕ) → length k ≡ l → held l (wide k) ≡ k
unfolding held wide over part
held-wide l k e = take_at k (drop (0 + length k) (replicate 32 0)) l e

pub length-held : (l : ℕ) (k : List ℕ) → l ≤ length k → length (held l k) ≡ l
unfolding held
length-held l k h = length_part k 0 l (omega arith)

-- the bytes of a value, as they are lent; and those of a value that a caller gets
pub value-bytes : (l : ℕ) (v : Value) → v.length ≡ l → take l v.bytes ≡ bytes_of v
unfolding held part
value-bytes l v e = ap (λ (n : ℕ). take n v.bytes) (sym e)

pub length-bytes : (l : ℕ) (v : Value) → l ≤ 32 → length v.bytes ≡ 32 → v.length ≡ l → length (bytes_of v) ≡ l
length-bytes l v h b e = length-held v.length v.bytes (omega arith) ∙ e

pub bytes-value : (k : List ℕ) → bytes_of (value_of k) ≡ k
bytes-value k = held-wide (length k) k refl

pub str1-most : (l : ℕ) → l ≤ 32 → str1_length l ≤ 82
unfolding str1_length
str1-most l h = omega arith
