-- The bytes of words that are added, looked up and turned, and `temp` of a word at its place. Assumes nothing.
use Rattle.std.specs.Prelude.{◌≡◌, refl, Bool, true, false, List, [], ◌∷◌, ℕ, zero, suc, ◌^◌, ◌<◌, eqb, ltb, get_or}
use Rattle.std.proofs.Common.{sym, ap, ◌∙◌, arith, eq-eqb, ne_eqb, lt-ltb, eqb-true, ltb-true}
use Rattle.std.specs.Int.Bits.{bit_xor, xor_zero_r}
use Rattle.octets.specs.Tests.{both}
use Rattle.field.specs.Linear.{xor-byte}
use Rattle.sbox.specs.SubBytes.{sbox}
use Rattle.sbox.specs.Rule.{sbox_table, table_at}
use Rattle.sbox.proofs.Undo.{sbox-lt}
use Rattle.column.specs.Word as column
use Rattle.column.specs.Word.{word_of, byte_at}
use Rattle.column.specs.Laws.{byte-lt, byte_of, xor_bytes}
use Rattle.key_expansion.specs.KeyExpansion.{word, rot_word, sub_word, xor_word, pick}
use Rattle.key_expansion.specs.Schedule.{bytes_in, temp_at}

pub four : {a b c d a' b' c' d' : ℕ} → a ≡ a' → b ≡ b' → c ≡ c' → d ≡ d' → ◌≡◌ {A = List ℕ} (a ∷ b ∷ c ∷ d ∷ []) (a' ∷ b' ∷ c' ∷ d' ∷ [])
four p q r s = cc

-- a word whose bytes are f's
bytes-by : (w : ℕ) (f : ℕ → ℕ) → ((i : ℕ) → i < 4 → f i < 256) → w ≡ word_of f → bytes_in w ≡ word f
bytes-by w f h e = four (at 0 (omega arith)) (at 1 (omega arith)) (at 2 (omega arith)) (at 3 (omega arith))
  where
    at : (i : ℕ) → i < 4 → byte_at w i ≡ f i
    at i l = ap (λ (v : ℕ). byte_at v i) e ∙ byte_of f h i l

pub bytes-xor : (v w : ℕ) → v < 2 ^ 32 → w < 2 ^ 32 → bytes_in (bit_xor v w) ≡ xor_word (bytes_in v) (bytes_in w)
bytes-xor v w hv hw = bytes-by (bit_xor v w) (λ i. bit_xor (byte_at v i) (byte_at w i)) (λ i _. xor-byte (byte-lt v i) (byte-lt w i)) (xor_bytes v w hv hw)

-- a word that is looked up in the table, byte by byte
module _ (w : ℕ) (l : List ℕ) (q : l ≡ sbox_table) where
  at_table : (i : ℕ) → get_or l (byte_at w i) 0 ≡ sbox (byte_at w i)
  at_table i = ap (λ (y : List ℕ). get_or y (byte_at w i) 0) q ∙ table_at sbox (byte_at w i) (byte-lt w i)

  looked-lt : (i : ℕ) → get_or l (byte_at w i) 0 < 256
  looked-lt i = let h : sbox (byte_at w i) < 256 = sbox-lt (byte_at w i) (byte-lt w i) in rw (at_table i) h

  pub bytes-sub : (r : ℕ) → r ≡ column.word (get_or l (byte_at w 0) 0) (get_or l (byte_at w 1) 0) (get_or l (byte_at w 2) 0) (get_or l (byte_at w 3) 0) → bytes_in r ≡ sub_word (bytes_in w)
  bytes-sub r e = bytes-by r (λ i. get_or l (byte_at w i) 0) (λ i _. looked-lt i) e ∙ four (at_table 0) (at_table 1) (at_table 2) (at_table 3)

  pub bytes-rot-sub : (x r : ℕ) → x < 256 →
      r ≡ column.word (bit_xor (get_or l (byte_at w 1) 0) x) (get_or l (byte_at w 2) 0) (get_or l (byte_at w 3) 0) (get_or l (byte_at w 0) 0) →
      bytes_in r ≡ xor_word (sub_word (rot_word (bytes_in w))) (x ∷ 0 ∷ 0 ∷ 0 ∷ [])
  bytes-rot-sub x r hx e =
      bytes-by r f lt (e ∙ column-by)
      ∙ four refl (sym (xor_zero_r (sbox (byte_at w 2)))) (sym (xor_zero_r (sbox (byte_at w 3)))) (sym (xor_zero_r (sbox (byte_at w 0))))
    where
      f : ℕ → ℕ
      f i = get_or (bit_xor (sbox (byte_at w 1)) x ∷ sbox (byte_at w 2) ∷ sbox (byte_at w 3) ∷ sbox (byte_at w 0) ∷ []) i 0

      looked : (i : ℕ) → sbox (byte_at w i) < 256
      looked i = sbox-lt (byte_at w i) (byte-lt w i)

      lt : (i : ℕ) → i < 4 → f i < 256
      lt zero h = xor-byte (looked 1) hx
      lt (suc zero) h = looked 2
      lt (suc (suc zero)) h = looked 3
      lt (suc (suc (suc zero))) h = looked 0
      lt (suc (suc (suc (suc i)))) h = omega arith

      column-by : column.word (bit_xor (get_or l (byte_at w 1) 0) x) (get_or l (byte_at w 2) 0) (get_or l (byte_at w 3) 0) (get_or l (byte_at w 0) 0) ≡ word_of f
      column-by = rw (at_table 1, at_table 2, at_table 3, at_table 0)

-- `temp` of a word at its place
pub temp-first : (nk j x : ℕ) (t : List ℕ) → j ≡ 0 → temp_at nk j x t ≡ xor_word (sub_word (rot_word t)) (x ∷ 0 ∷ 0 ∷ 0 ∷ [])
unfolding temp_at
temp-first nk j x t h = rw (eq-eqb j 0 h)

pub temp-fourth : (nk j x : ℕ) (t : List ℕ) → 6 < nk → j ≡ 4 → temp_at nk j x t ≡ sub_word t
unfolding temp_at
temp-fourth nk j x t l h = rw (ne_eqb j 0 (λ z. omega arith), lt-ltb 6 nk l, eq-eqb j 4 h)

pub temp-other : (nk j x : ℕ) (t : List ℕ) → (j ≡ 0 → ⊥) → (6 < nk → j ≡ 4 → ⊥) → temp_at nk j x t ≡ t
unfolding temp_at
temp-other nk j x t h k = by (ltb 6 nk) refl (eqb j 4) refl
  where
    by : (p : Bool) → ltb 6 nk ≡ p → (q : Bool) → eqb j 4 ≡ q → pick (eqb j 0) (xor_word (sub_word (rot_word t)) (x ∷ 0 ∷ 0 ∷ 0 ∷ [])) (pick (both p q) (sub_word t) t) ≡ t
    by true ep true eq = absurd (k (ltb-true 6 nk ep) (eqb-true j 4 eq))
    by true ep false eq = rw (ne_eqb j 0 h)
    by false ep q eq = rw (ne_eqb j 0 h)
