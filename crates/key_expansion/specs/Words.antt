-- The words of the key schedule by their index, and that they are bytes. Assumes nothing.
use Rattle.std.specs.Prelude.{◌≡◌, Bool, true, false, eqb, ltb, length}
use Rattle.std.proofs.Math.Path.{sym, ap}
use Rattle.std.proofs.Common.{ap₂, ◌∙◌, add-zero}
use mathlib.Core.List.{List, [], ◌∷◌, ◌++◌}
use Prim.Native.Nat.{ℕ, zero, suc, ◌+◌, ◌-◌, ◌*◌, ◌/◌, ◌%◌, ◌<◌}
use native.Mathlib.Omega.{arith}
use Rattle.std.proofs.Math.ListN.{get_or, length-append, get_or-append}
use Rattle.std.proofs.Math.Seq.{get_or_at}
use Rattle.std.specs.Int.Bits.{bit_xor}
use Rattle.octets.specs.Bytes.{Bytes}
use Rattle.octets.specs.Lists.{length-table, get_or-table, table-all}
use Rattle.octets.specs.Tests.{both}
use Rattle.octets.specs.ByteLists.{append-bytes}
use Rattle.field.specs.Linear.{x_times-lt, xor-byte}
use Rattle.sbox.specs.SubBytes.{sbox}
use Rattle.sbox.proofs.Undo.{sbox-lt}
use Rattle.key_expansion.specs.KeyExpansion.{word, rot_word, sub_word, xor_word, power, rcon, pick, temp, next_word, words, key_expansion, round_key, round_keys}

pub word-bytes : (f : ℕ → ℕ) → ((i : ℕ) → f i < 256) → Bytes (word f)
word-bytes f h zero = h 0
word-bytes f h (suc zero) = h 1
word-bytes f h (suc (suc zero)) = h 2
word-bytes f h (suc (suc (suc zero))) = h 3
word-bytes f h (suc (suc (suc (suc i)))) = omega arith

nil-bytes : Bytes []
nil-bytes i = omega arith

xor_bytes : (a b : List ℕ) → Bytes a → Bytes b → Bytes (xor_word a b)
xor_bytes a b ha hb = word-bytes (λ i. bit_xor (get_or a i 0) (get_or b i 0)) (λ i. xor-byte (ha i) (hb i))

sub-bytes : (a : List ℕ) → Bytes a → Bytes (sub_word a)
sub-bytes a ha = word-bytes (λ i. sbox (get_or a i 0)) (λ i. sbox-lt (get_or a i 0) (ha i))

pub power-lt : (n : ℕ) → power n < 256
unfolding power
power-lt zero = omega arith
power-lt (suc n) = x_times-lt (power n) (power-lt n)

rcon-bytes : (j : ℕ) → Bytes (rcon j)
rcon-bytes j zero = power-lt (j - 1)
rcon-bytes j (suc zero) = omega arith
rcon-bytes j (suc (suc zero)) = omega arith
rcon-bytes j (suc (suc (suc zero))) = omega arith
rcon-bytes j (suc (suc (suc (suc i)))) = omega arith

pick-bytes : (t : Bool) (a b : List ℕ) → Bytes a → Bytes b → Bytes (pick t a b)
pick-bytes true a b ha hb = ha
pick-bytes false a b ha hb = hb

temp-bytes : (nk i : ℕ) (t : List ℕ) → Bytes t → Bytes (temp nk i t)
unfolding temp
temp-bytes nk i t h =
    pick-bytes (eqb (i % nk) 0) (xor_word (sub_word (rot_word t)) (rcon (i / nk))) (pick (both (ltb 6 nk) (eqb (i % nk) 4)) (sub_word t) t)
    (xor_bytes (sub_word (rot_word t)) (rcon (i / nk)) (sub-bytes (rot_word t) (word-bytes (λ j. get_or t ((j + 1) % 4) 0) (λ j. h ((j + 1) % 4)))) (rcon-bytes (i / nk)))
    (pick-bytes (both (ltb 6 nk) (eqb (i % nk) 4)) (sub_word t) t (sub-bytes t h) h)

-- one word more at the end
snoc-at : (P : List ℕ → Type 0) (w : List (List ℕ)) (x : List ℕ) → ((i : ℕ) → P (get_or w i [])) → P x → P [] → (i : ℕ) → P (get_or (w ++ (x ∷ [])) i [])
snoc-at P [] x h hx hn zero = hx
snoc-at P [] x h hx hn (suc i) = hn
snoc-at P (y ∷ w) x h hx hn zero = h 0
snoc-at P (y ∷ w) x h hx hn (suc i) = snoc-at P w x (λ j. h (suc j)) hx hn i

module _ (nk : ℕ) (key : List ℕ) where
  words-bytes : Bytes key → (n i : ℕ) → Bytes (get_or (words nk key n) i [])
  unfolding words
  words-bytes kb zero i = table-all Bytes (λ i. word (λ j. get_or key (4 * i + j) 0)) [] (λ m. word-bytes (λ j. get_or key (4 * m + j) 0) (λ j. kb (4 * m + j))) nil-bytes nk 0 i
  words-bytes kb (suc n) i =
      let w : List (List ℕ) = words nk key n in
      snoc-at Bytes w (next_word nk w (nk + n)) (words-bytes kb n)
      (xor_bytes (get_or w (nk + n - nk) []) (temp nk (nk + n) (get_or w (nk + n - 1) [])) (words-bytes kb n (nk + n - nk)) (temp-bytes nk (nk + n) (get_or w (nk + n - 1) []) (words-bytes kb n (nk + n - 1))))
      nil-bytes i

  pub length-words : (n : ℕ) → length (words nk key n) ≡ nk + n
  unfolding words
  length-words zero = length-table (λ i. word (λ j. get_or key (4 * i + j) 0)) nk 0 ∙ sym (add-zero nk)
  length-words (suc n) =
      length-append (words nk key n) (next_word nk (words nk key n) (nk + n) ∷ [])
      ∙ omega (arith, length-words n)

  -- a word stays as it was made
  kept-one : (n i : ℕ) → i < nk + n → get_or (words nk key (suc n)) i [] ≡ get_or (words nk key n) i []
  unfolding words
  kept-one n i h = get_or-append (words nk key n) (next_word nk (words nk key n) (nk + n) ∷ []) [] i (omega (arith, length-words n))

  kept : (m n i : ℕ) → i < nk + n → get_or (words nk key (m + n)) i [] ≡ get_or (words nk key n) i []
  kept zero n i h = let e : zero + n ≡ n = omega arith in ap (λ (k : ℕ). get_or (words nk key k) i []) e
  kept (suc m) n i h =
      let e : suc m + n ≡ suc (m + n) = omega arith in
      ap (λ (k : ℕ). get_or (words nk key k) i []) e ∙ kept-one (m + n) i (omega arith) ∙ kept m n i h

  made_one : (n : ℕ) → get_or (words nk key (suc n)) (nk + n) [] ≡ next_word nk (words nk key n) (nk + n)
  unfolding words
  made_one n = get_or_at (words nk key n) (next_word nk (words nk key n) (nk + n)) [] [] (nk + n) (length-words n)

  -- the word at a place, of every schedule that reaches so far
  pub word_at : ℕ → List ℕ
  word_at i = get_or (words nk key (suc i)) i []

  pub word-of : (n i : ℕ) → i < nk + n → get_or (words nk key n) i [] ≡ word_at i
  unfolding word_at
  word-of n i h =
      let e : suc i + n ≡ n + suc i = omega arith in
      sym (kept (suc i) n i h) ∙ ap (λ (k : ℕ). get_or (words nk key k) i []) e ∙ kept n (suc i) i (omega arith)

  -- the first Nk are the key's, and each later one is made of two before it
  pub word-key : (i : ℕ) → i < nk → word_at i ≡ word (λ j. get_or key (4 * i + j) 0)
  unfolding words
  word-key i h = sym (word-of 0 i (omega arith)) ∙ get_or-table (λ k. word (λ j. get_or key (4 * k + j) 0)) nk 0 i [] h ∙ first i
    where
      first : (i : ℕ) → word (λ j. get_or key (4 * (0 + i) + j) 0) ≡ word (λ j. get_or key (4 * i + j) 0)
      first i = let e : 0 + i ≡ i = omega arith in ap (λ (k : ℕ). word (λ j. get_or key (4 * k + j) 0)) e

  pub word_made : (m : ℕ) → 0 < nk → word_at (nk + m) ≡ xor_word (word_at m) (temp nk (nk + m) (word_at (nk + m - 1)))
  word_made m p =
      let z : nk + m - nk ≡ m = omega arith in
      sym (word-of (suc m) (nk + m) (omega arith))
      ∙ made_one m
      ∙ ap₂ (λ (x y : List ℕ). xor_word x (temp nk (nk + m) y))
      (ap (λ (i : ℕ). get_or (words nk key m) i []) z ∙ word-of m m (omega arith))
      (word-of m (nk + m - 1) (omega arith))

-- each round key is of bytes
pub round_keys-bytes : (nk : ℕ) (key : List ℕ) → Bytes key → (n : ℕ) → Bytes (get_or (round_keys nk key) n [])
unfolding round_key
round_keys-bytes nk key kb n =
    let w : List (List ℕ) = key_expansion nk key in
    let at : (i : ℕ) → Bytes (get_or w i []) = words-bytes nk key kb (4 * (nk + 7) - nk) in
    table-all Bytes (round_key w) []
    (λ r. append-bytes (get_or w (4 * r) [] ++ get_or w (4 * r + 1) [] ++ get_or w (4 * r + 2) []) (get_or w (4 * r + 3) [])
    (append-bytes (get_or w (4 * r) [] ++ get_or w (4 * r + 1) []) (get_or w (4 * r + 2) [])
    (append-bytes (get_or w (4 * r) []) (get_or w (4 * r + 1) []) (at (4 * r)) (at (4 * r + 1))) (at (4 * r + 2))) (at (4 * r + 3)))
    nil-bytes (nk + 7) 0 n
