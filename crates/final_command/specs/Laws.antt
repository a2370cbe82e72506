-- The counts and the length of a final command's reply, and the body of an accepted one. Assumes nothing.
use Rattle.std.specs.Prelude.{◌≡◌, refl, Bool, true, false, cond, List, [], ◌∷◌, ℕ, zero, suc, ◌+◌, ◌-◌, ◌*◌, ◌/◌, ◌%◌, ◌≤◌, eqb, ltb, length, replicate, take, drop}
use Rattle.std.proofs.Math.Path.{ap}
use Rattle.std.proofs.Common.{◌∙◌, length-drop, take_at, ltb-false}
use native.Mathlib.Omega.{arith}
use Rattle.std.proofs.Math.ListN.{length-append}
use Rattle.std.proofs.lemmas.List.{length-replicate}
use Rattle.octets.specs.Bytes.{Bytes}
use Rattle.octets.specs.ByteLists.{append-bytes, zeros-bytes}
use Rattle.octets.specs.Lists.{part, over, table, length_part}
use Rattle.key_expansion.specs.KeyLength.{each-length}
use Rattle.aes.specs.Aes.{aes_under, inv_aes_under}
use Rattle.aes.specs.RoundTrip.{length-aes}
use Rattle.padding.specs.Method2.{blocks_for}
use Rattle.sha_padding.specs.Parsing.{blocks}
use Rattle.sha_padding.specs.PaddingLaws.{blocks-count}
use Rattle.sha_block.specs.Hash.{sha256, length-sha256}
use Rattle.work.specs.Steps.{comparison, decipherment, encipherment, expansion, hash_block, counted}
use Rattle.work.specs.Laws.{counted-append, times_none, times_more}
use Rattle.cbc.specs.Cbc.{decrypted, zeros}
use Rattle.cbc.specs.Steps.{enciphered, deciphered}
use Rattle.cbc.specs.Lengths.{length-encrypted}
use Rattle.steps.specs.Made.{hash_step, hash_steps}
use Rattle.diversification.specs.Laws.{encipherments, counted-diversify}
use Rattle.plaid_types.specs.Keys.{key_length_of, held}
use Rattle.plaid_types.specs.KeyLaws.{lawful-one, lawful-most, length-held}
use Rattle.plaid_types.specs.declared.OpModeId.{OpModeId}
use Rattle.plaid_types.specs.declared.ModeSlot.{ModeSlot}
use Rattle.plaid_types.specs.declared.Card.{Card}
use Rattle.final_command.specs.Final.{fa_key_of, rnd1_of, diversified, blocks_in, text_of, hashed_of, card_keys_hash, mode_steps, reply_key, size_of, body_of, reply_buffer, final_bytes, final_steps, final_reply}

-- "Answer length: .. 16B"
pub final-length : (c : Card) (d fresh : List ℕ) → length (final_reply c d fresh).bytes ≡ 16 * size_of c
unfolding final_reply final_bytes
final-length c d fresh = length-encrypted (aes_under (reply_key c d)) (length-aes (length (reply_key c d) / 4) (reply_key c d)) (size_of c) zeros (reply_buffer c d fresh)

pub least-is : (a b : ℕ) (t : Bool) → ltb a b ≡ t → a ≤ b → cond t a b ≡ a
least-is a b true e h = refl
least-is a b false e h = omega (arith, ltb-false a b e)

pub size-loaded : (c : Card) → c.reply_size ≤ 6 → size_of c ≡ c.reply_size
unfolding size_of
size-loaded c h = least-is c.reply_size 6 (ltb c.reply_size 6) refl h

-- T-01: the record and its payload. The record stands in front
pub length-body : (rec : List ℕ) (b : ℕ) → length (body_of rec b) ≡ length rec + (16 * (b - 2) - length rec)
unfolding body_of
length-body rec b = length-append rec (replicate (16 * (b - 2) - length rec) 0) ∙ ap (λ (n : ℕ). length rec + n) (length-replicate (16 * (b - 2) - length rec) 0)

pub take-body : (rec : List ℕ) (b n : ℕ) → length rec ≡ n → take n (body_of rec b) ≡ rec
unfolding body_of
take-body rec b n e = take_at rec (replicate (16 * (b - 2) - length rec) 0) n e

pub body_bytes : (rec : List ℕ) (b : ℕ) → Bytes rec → Bytes (body_of rec b)
unfolding body_of
body_bytes rec b h = append-bytes rec (replicate (16 * (b - 2) - length rec) 0) h (zeros-bytes (16 * (b - 2) - length rec))

-- with DivData behind it, it takes B blocks, where the record takes no more
pub body-blocks : (rec : List ℕ) (b : ℕ) → blocks_for (length rec + 16) ≤ b → blocks_for (length (body_of rec b) + 16) ≡ b
body-blocks rec b h = omega (arith, length-body rec b)

-- one for a step of kind j among those of kind k
abbrev of-kind : ℕ → ℕ → ℕ
of-kind j k = cond (eqb j k) 1 0

counted-deciphered : (k : ℕ) (key : List ℕ) (inv : List ℕ → List ℕ) (n : ℕ) (s : List ℕ) → counted k (deciphered key inv n s) ≡ n * of-kind decipherment k
unfolding deciphered
counted-deciphered k key inv zero s = times_none (eqb decipherment k)
counted-deciphered k key inv (suc n) s = ap (λ (m : ℕ). of-kind decipherment k + m) (counted-deciphered k key inv n (drop 16 s)) ∙ times_more (eqb decipherment k) n

counted-enciphered : (k : ℕ) (key : List ℕ) (ciph : List ℕ → List ℕ) (n : ℕ) (iv s : List ℕ) → counted k (enciphered key ciph iv n s) ≡ n * of-kind encipherment k
unfolding enciphered
counted-enciphered k key ciph zero iv s = times_none (eqb encipherment k)
counted-enciphered k key ciph (suc n) iv s = ap (λ (m : ℕ). of-kind encipherment k + m) (counted-enciphered k key ciph n _ (drop 16 s)) ∙ times_more (eqb encipherment k) n

counted-hash : (k : ℕ) (m : List ℕ) (n j : ℕ) → counted k (table (hash_step m) n j) ≡ n * of-kind hash_block k
counted-hash k m zero j = times_none (eqb hash_block k)
counted-hash k m (suc n) j = ap (λ (i : ℕ). of-kind hash_block k + i) (counted-hash k m n (suc j)) ∙ times_more (eqb hash_block k) n

pub counted-modes : (k : ℕ) (v : OpModeId) (ms : List ModeSlot) → counted k (mode_steps v ms) ≡ length ms * of-kind comparison k
counted-modes k v [] = times_none (eqb comparison k)
counted-modes k v (m ∷ ms) = ap (λ (n : ℕ). of-kind comparison k + n) (counted-modes k v ms) ∙ times_more (eqb comparison k) (length ms)

counted-final : (k : ℕ) (c : Card) (d fresh : List ℕ) →
    counted k (final_steps c d fresh) ≡
    of-kind expansion k + encipherments (length (fa_key_of c)) * of-kind encipherment k + of-kind expansion k + blocks_in d * of-kind decipherment k + blocks (hashed_of c d) * of-kind hash_block k
    + length c.modes * of-kind comparison k + of-kind expansion k + size_of c * of-kind encipherment k
unfolding final_steps hash_steps
counted-final k c d fresh =
    simp (counted-append, counted-diversify, counted-deciphered, counted-hash, counted-modes, counted-enciphered) (omega arith)

length-over-most : (d s : List ℕ) → length d ≤ length (over d 0 s)
unfolding over
length-over-most d s = omega (arith, length-append s (drop (0 + length s) d), length-drop (0 + length s) d)

-- "RND1, RND2 and KeysHash have L bytes each"
pub length-card_keys_hash : (c : Card) (d : List ℕ) → length (card_keys_hash c d) ≡ key_length_of c
unfolding card_keys_hash
length-card_keys_hash c d = length_part (sha256 (hashed_of c d)) 0 (key_length_of c) (omega (arith, lawful-most c.key_length, length-sha256 (hashed_of c d)))

-- 32 bytes each hold the shill key of a card, and RND1 and FAKey of its session
pub record Stored (c : Card) : Type 0 where
  pub shill : length c.shill_key ≡ 32
  pub rnd1 : length c.session.rnd1 ≡ 32
  pub key : length c.session.fa_key ≡ 32

choice-long : (t : Bool) (n : ℕ) (x y : List ℕ) → length x ≡ n → length y ≡ n → length (cond t x y) ≡ n
choice-long true n x y hx hy = hx
choice-long false n x y hx hy = hy

-- the keys have L bytes each, too
module _ (c : Card) (s : Stored c) where
  most : key_length_of c ≤ 32
  most = lawful-most c.key_length

  pub length-fa_key : length (fa_key_of c) ≡ key_length_of c
  unfolding fa_key_of
  length-fa_key =
      let h = choice-long c.session.opened 32 c.session.fa_key c.shill_key s.key s.shill in
      length-held (key_length_of c) (cond c.session.opened c.session.fa_key c.shill_key) (omega (arith, most))

  pub length-rnd1 : length (rnd1_of c) ≡ key_length_of c
  unfolding rnd1_of
  length-rnd1 =
      choice-long c.session.opened (key_length_of c) (held (key_length_of c) c.session.rnd1) (replicate (key_length_of c) 0)
      (length-held (key_length_of c) c.session.rnd1 (omega (arith, most, s.rnd1))) (length-replicate (key_length_of c) 0)

  length-hashed : (d : List ℕ) → length (hashed_of c d) ≡ 2 * key_length_of c
  unfolding hashed_of text_of
  length-hashed d =
      length-append (rnd1_of c) (part (text_of c d) 2 (key_length_of c))
      ∙ omega (arith, length-rnd1, length_part (text_of c d) 2 (key_length_of c) (omega (arith, most, length-over-most (replicate 240 0) (decrypted (inv_aes_under (diversified c)) zeros (blocks_in d) d))))

  -- "its own block count, 2 for L = 32 and else 1"
  hashed-blocks : (d : List ℕ) → blocks (hashed_of c d) ≡ cond (eqb (key_length_of c) 32) 2 1
  hashed-blocks d =
      blocks-count (hashed_of c d)
      ∙ ap of (length-hashed d)
      ∙ each-length (λ (n : ℕ). of (2 * n) ≡ cond (eqb n 32) 2 1) (key_length_of c) (lawful-one c.key_length) refl refl refl
    where
      of : ℕ → ℕ
      of n = n / 64 + 1 + (n % 64 + 8) / 64

-- "Final: 16 comparisons, n decipherments, B + 1 encipherments, 3 expansions, 1 hash block." T-04: "One encipherment more is made for L over 16",
-- and two hash blocks for L = 32
module _ (c : Card) (d fresh : List ℕ) (lm : length c.modes ≡ 16) (s : Stored c) where
  pub final-comparisons : counted comparison (final_reply c d fresh).steps ≡ 16
  unfolding final_reply
  final-comparisons = counted-final comparison c d fresh ∙ omega arith

  pub final-decipherments : counted decipherment (final_reply c d fresh).steps ≡ blocks_in d
  unfolding final_reply
  final-decipherments = counted-final decipherment c d fresh ∙ omega arith

  pub final-encipherments : counted encipherment (final_reply c d fresh).steps ≡ size_of c + encipherments (key_length_of c)
  unfolding final_reply
  final-encipherments = counted-final encipherment c d fresh ∙ omega (arith, ap encipherments (length-fa_key c s))

  pub final-expansions : counted expansion (final_reply c d fresh).steps ≡ 3
  unfolding final_reply
  final-expansions = counted-final expansion c d fresh ∙ omega arith

  pub final-hash-blocks : counted hash_block (final_reply c d fresh).steps ≡ cond (eqb (key_length_of c) 32) 2 1
  unfolding final_reply
  final-hash-blocks = counted-final hash_block c d fresh ∙ omega (arith, hashed-blocks c s d)
