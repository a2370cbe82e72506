-- Lengths of what Accept deciphers, and what it has seen before that. Assumes nothing.
use Rattle.std.specs.Prelude.{◌≡◌, refl, Bool, true, false, cond, not, ◌||◌, List, ℕ, ◌/◌, ◌%◌, ◌≤◌, eqb, ltb, length}
use Rattle.std.proofs.Common.{ap, ◌∙◌, arith, eq-eqb, eqb-true, le-ltb, ltb-false}
use Rattle.std.proofs.lemmas.Bool.{not-false}
use Rattle.key_expansion.specs.KeyLength.{is_key_length}
use Rattle.aes.specs.Aes.{inv_aes_under}
use Rattle.cbc.specs.Lengths.{length-decrypted}
use Rattle.cbc.specs.Cbc.{zeros}
use Rattle.plaid_types.specs.Keys.{of_length}
use Rattle.plaid_types.specs.declared.Value.{Value}
use Rattle.reader_accept.specs.Accept.{deciphered_text, known_length, accept_number}

-- the lengths of a response are whole blocks, and at most 96
pub record Known (n : ℕ) : Type 0 where
  pub least : 32 ≤ n
  pub most : n ≤ 96
  pub whole : n % 16 ≡ 0

known-or : (n k : ℕ) (t b : Bool) → eqb n k ≡ t → 32 ≤ k → k ≤ 96 → k % 16 ≡ 0 → (b ≡ true → Known n) → (t || b) ≡ true → Known n
known-or n k true b e l m w f q = let h : n ≡ k = eqb-true n k e in record { least = omega arith; most = omega arith; whole = ap (λ (x : ℕ). x % 16) h ∙ w }
known-or n k false b e l m w f q = f q

known-one : (n k : ℕ) → 32 ≤ k → k ≤ 96 → k % 16 ≡ 0 → eqb n k ≡ true → Known n
known-one n k l m w e = known-or n k true false e l m w (λ z. absurd (let x : ◌≡◌ {A = ℕ} 0 1 = cc in omega arith)) refl

pub known : (n : ℕ) → known_length n ≡ true → Known n
unfolding known_length
known n =
    known-or n 32 (eqb n 32) _ refl (omega arith) (omega arith) refl
    (known-or n 48 (eqb n 48) _ refl (omega arith) (omega arith) refl
    (known-or n 64 (eqb n 64) _ refl (omega arith) (omega arith) refl
    (known-or n 80 (eqb n 80) _ refl (omega arith) (omega arith) refl (known-one n 96 (omega arith) (omega arith) refl))))

pub length-text : (hash response : List ℕ) → length response % 16 ≡ 0 → length (deciphered_text hash response) ≡ length response
unfolding deciphered_text
length-text hash response w = length-decrypted (inv_aes_under hash) (length response / 16) zeros response ∙ omega arith

-- what Accept has seen where it deciphers: none of 21, 22, 18 and 19 arises
pub record Seen (l : ℕ) (hash : Value) (n room : ℕ) : Type 0 where
  pub length-one : is_key_length l ≡ true
  pub hash-right : hash.length ≡ l
  pub length-known : known_length n ≡ true
  pub room-enough : n ≤ room

seen_by : (l : ℕ) (hash : Value) (n room : ℕ) (ok s t u v : Bool) →
    not (is_key_length l) ≡ s →
    not (of_length l hash) ≡ t →
    not (known_length n) ≡ u →
    ltb room n ≡ v →
    ◌≡◌ {A = ℕ} (cond s 21 (cond t 22 (cond u 18 (cond v 19 (cond ok 0 20))))) 0 →
    Seen l hash n room × (ok ≡ true)
seen_by l hash n room ok true t u v es et eu ev z = absurd (omega arith)
seen_by l hash n room ok false true u v es et eu ev z = absurd (omega arith)
seen_by l hash n room ok false false true v es et eu ev z = absurd (omega arith)
seen_by l hash n room ok false false false true es et eu ev z = absurd (omega arith)
seen_by l hash n room false false false false false es et eu ev z = absurd (omega arith)
seen_by l hash n room true false false false false es et eu ev z =
    (record { length-one = not-false _ es; hash-right = eqb-true hash.length l (not-false _ et); length-known = not-false _ eu; room-enough = ltb-false room n ev }, refl)

pub number-none : (l : ℕ) (hash : Value) (n room : ℕ) (ok : Bool) → accept_number l hash n room ok ≡ 0 → Seen l hash n room × (ok ≡ true)
unfolding accept_number
number-none l hash n room ok z = seen_by l hash n room ok (not (is_key_length l)) (not (of_length l hash)) (not (known_length n)) (ltb room n) refl refl refl refl z

-- then 20 is left
pub number-seen : (l : ℕ) (hash : Value) (n room : ℕ) (ok : Bool) → Seen l hash n room → accept_number l hash n room ok ≡ cond ok 0 20
unfolding accept_number
number-seen l hash n room ok s = simp (s.length-one, eq-eqb hash.length l s.hash-right, s.length-known, le-ltb room n s.room-enough)
