-- Lengths of Seal's parts and command, Lc's range, and what Seal has seen that does not decline. Assumes nothing.
use Rattle.std.specs.Prelude.{◌≡◌, Bool, true, false, cond, not, ◌&&◌, List, [], ◌∷◌, ◌++◌, ℕ, ◌+◌, ◌*◌, ◌/◌, ◌≤◌, eqb, ltb, length}
use Rattle.std.proofs.Math.Path.{refl}
use Rattle.std.proofs.Common.{sym, ap, ◌∙◌, arith, eqb-true, ltb-false, eq-eqb, length-append}
use Rattle.std.proofs.lemmas.Bool.{not-false}
use Rattle.octets.specs.Lists.{over, length_part}
use Rattle.octets.specs.Same.{split-and}
use Rattle.key_expansion.specs.KeyLength.{is_key_length, length_most}
use Rattle.aes.specs.Aes.{aes_under}
use Rattle.aes.specs.RoundTrip.{length-aes}
use Rattle.sha_block.specs.Hash.{sha256, length-sha256}
use Rattle.padding.specs.Method2.{blocks_for, padded}
use Rattle.cbc.specs.Lengths.{length-encrypted}
use Rattle.cbc.specs.Cbc.{zeros}
use Rattle.plaid_types.specs.Keys.{of_length}
use Rattle.plaid_types.specs.declared.Value.{Value}
use Rattle.plaid_types.specs.declared.OpModeId.{OpModeId}
use Rattle.diversification.specs.Diversification.{diversified_by}
use Rattle.reader_seal.specs.Seal.{keys_hash_of, str2, sealed_blocks, lc_of, sealed_data, final_command, seal_command, payload_most, seal_number, seal_declined, sealed_command, seal_done, sealed_of, seal_output}
use Rattle.reader_seal.specs.declared.Sealed.{Sealed}

pub length-card_keys_hash : (l : ℕ) (rnd1 rnd2 : List ℕ) → is_key_length l ≡ true → length (keys_hash_of l rnd1 rnd2) ≡ l
unfolding keys_hash_of
length-card_keys_hash l rnd1 rnd2 k = length_part (sha256 (rnd1 ++ rnd2)) 0 l (omega (arith, length-sha256 (rnd1 ++ rnd2), length_most l k))

pub length-str2 : (l : ℕ) (mode : OpModeId) (rnd2 payload hash : List ℕ) → length rnd2 ≡ l → length hash ≡ l → length (str2 mode rnd2 payload hash) ≡ 2 + 2 * l + length payload
unfolding str2
length-str2 l mode rnd2 payload hash lr lh = omega (arith, length-append rnd2 (payload ++ hash), length-append payload hash)

pub length-sealed_data : (l : ℕ) (key : List ℕ) (mode : OpModeId) (rnd2 payload hash : List ℕ) → length (sealed_data l key mode rnd2 payload hash) ≡ lc_of l (length payload)
unfolding sealed_data
length-sealed_data l key mode rnd2 payload hash = length-encrypted (aes_under key) (length-aes (length key / 4) key) (sealed_blocks l (length payload)) zeros (padded (str2 mode rnd2 payload hash))

pub length-command : (lc : ℕ) (d : List ℕ) → length (final_command lc d) ≡ length d + 6
unfolding final_command
length-command lc d = omega (arith, length-append d (0 ∷ []))

-- the command is Lc + 6 bytes long
pub length-seal_command : (l : ℕ) (fa div rnd1 rnd2 : List ℕ) (mode : OpModeId) (payload : List ℕ) → length (seal_command l fa div rnd1 rnd2 mode payload) ≡ lc_of l (length payload) + 6
unfolding seal_command
length-seal_command l fa div rnd1 rnd2 mode payload =
    length-command (lc_of l (length payload)) (sealed_data l (diversified_by fa div) mode rnd2 payload (keys_hash_of l rnd1 rnd2))
    ∙ ap (λ (n : ℕ). n + 6) (length-sealed_data l (diversified_by fa div) mode rnd2 payload (keys_hash_of l rnd1 rnd2))

-- Lc from 48, 64 or 80 on, as L is, to 240
pub lc-least : (l p : ℕ) → 16 * blocks_for (2 + 2 * l) ≤ lc_of l p
lc-least l p = omega arith

pub lc-most : (l p : ℕ) → is_key_length l ≡ true → p ≤ payload_most l → lc_of l p ≤ 240
lc-most l p k h = omega (arith, length_most l k)

-- what Seal has seen that does not decline: none of 21, 22, 16 and 17 arises
pub record Sealable (l : ℕ) (fa rnd1 rnd2 : Value) (p room : ℕ) : Type 0 where
  pub length-one : is_key_length l ≡ true
  pub key_right : fa.length ≡ l
  pub rnd1-right : rnd1.length ≡ l
  pub rnd2-right : rnd2.length ≡ l
  pub payload-most : p ≤ payload_most l
  pub room-enough : lc_of l p + 6 ≤ room

sealable-by : (l : ℕ) (fa rnd1 rnd2 : Value) (p room : ℕ) (s t u v : Bool) →
    not (is_key_length l) ≡ s →
    not (of_length l fa && (of_length l rnd1 && of_length l rnd2)) ≡ t →
    ltb (payload_most l) p ≡ u →
    ltb room (lc_of l p + 6) ≡ v →
    ◌≡◌ {A = ℕ} (cond s 21 (cond t 22 (cond u 16 (cond v 17 0)))) 0 →
    Sealable l fa rnd1 rnd2 p room
sealable-by l fa rnd1 rnd2 p room true t u v es et eu ev z = absurd (omega arith)
sealable-by l fa rnd1 rnd2 p room false true u v es et eu ev z = absurd (omega arith)
sealable-by l fa rnd1 rnd2 p room false false true v es et eu ev z = absurd (omega arith)
sealable-by l fa rnd1 rnd2 p room false false false true es et eu ev z = absurd (omega arith)
sealable-by l fa rnd1 rnd2 p room false false false false es et eu ev z =
    let a = split-and (of_length l fa) (of_length l rnd1 && of_length l rnd2) (not-false _ et) in
    let b = split-and (of_length l rnd1) (of_length l rnd2) a.1 in
    record {
      length-one = not-false _ es;
      key_right = eqb-true fa.length l a.0;
      rnd1-right = eqb-true rnd1.length l b.0;
      rnd2-right = eqb-true rnd2.length l b.1;
      payload-most = ltb-false (payload_most l) p eu;
      room-enough = ltb-false room (lc_of l p + 6) ev;
    }

pub sealable : (l : ℕ) (fa rnd1 rnd2 : Value) (p room : ℕ) → seal_number l fa rnd1 rnd2 p room ≡ 0 → Sealable l fa rnd1 rnd2 p room
unfolding seal_number
sealable l fa rnd1 rnd2 p room z =
    sealable-by l fa rnd1 rnd2 p room (not (is_key_length l)) (not (of_length l fa && (of_length l rnd1 && of_length l rnd2))) (ltb (payload_most l) p) (ltb room (lc_of l p + 6))
    refl refl refl refl z

-- the number that is handed back, and what Seal does where it is 0
number-of : (n : ℕ) (s : Sealed) (t : Bool) → s.number ≡ 0 → eqb n 0 ≡ t → (cond t s (seal_declined n)).number ≡ n
number-of n s true z e = z ∙ sym (eqb-true n 0 e)
number-of n s false z e = refl

module _ (l : ℕ) (fa : Value) (div : List ℕ) (rnd1 rnd2 : Value) (mode : OpModeId) (payload : List ℕ) where
  pub seal-number : (room : ℕ) → (sealed_of l fa div rnd1 rnd2 mode payload room).number ≡ seal_number l fa rnd1 rnd2 (length payload) room
  unfolding sealed_of
  seal-number room =
      number-of (seal_number l fa rnd1 rnd2 (length payload) room) (seal_done l fa div rnd1 rnd2 mode payload) (eqb (seal_number l fa rnd1 rnd2 (length payload) room) 0) refl refl

  module _ (out : List ℕ) (z : seal_number l fa rnd1 rnd2 (length payload) (length out) ≡ 0) where
    pub seal-done : sealed_of l fa div rnd1 rnd2 mode payload (length out) ≡ seal_done l fa div rnd1 rnd2 mode payload
    unfolding sealed_of
    seal-done = rw (eq-eqb (seal_number l fa rnd1 rnd2 (length payload) (length out)) 0 z)

    pub seal-written : seal_output l fa div rnd1 rnd2 mode payload out ≡ over out 0 (sealed_command l fa div rnd1 rnd2 mode payload)
    unfolding seal_output
    seal-written = rw (eq-eqb (seal_number l fa rnd1 rnd2 (length payload) (length out)) 0 z)
