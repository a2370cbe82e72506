-- What a card replies is accepted where it has a record of the length that Accept gets, and the returned part is that record. Assumes nothing.
use Rattle.std.specs.Prelude.{◌≡◌, refl, Bool, cond, take}
use Rattle.std.proofs.Math.Path.{ap}
use Rattle.std.proofs.Common.{◌∙◌, length-append, drop_at}
use Rattle.std.proofs.Math.Bool.{true, false}
use mathlib.Core.List.{List, ◌∷◌, ◌++◌, append_assoc}
use Prim.Native.Nat.{ℕ, zero, suc, ◌+◌, ◌-◌, ◌*◌, ◌/◌, ◌<◌, ◌≤◌}
use native.Mathlib.Omega.{arith}
use borrow.Author.Tests.{eq-eqb, lt-ltb, le-leb}
use Rattle.std.proofs.Math.ListN.{length, drop, replicate}
use Rattle.std.proofs.Math.Seq.{take_at, take-append-le}
use Rattle.std.proofs.lemmas.List.{drop-append-le}
use Rattle.octets.specs.Bytes.{Bytes, Block}
use Rattle.octets.specs.Same.{same_refl}
use Rattle.octets.specs.Lists.{part, over}
use Rattle.octets.specs.ByteLists.{append-bytes, zeros-bytes}
use Rattle.key_expansion.specs.KeyLength.{is_key_length}
use Rattle.aes.specs.Aes.{aes_under, inv_aes_under}
use Rattle.aes.specs.RoundTrip.{length-aes}
use Rattle.padding.specs.Method2.{blocks_for, zero_bytes, padded, unpadded, rightly}
use Rattle.padding.specs.Laws.{length-padded, unpadded-padded, padded-bytes}
use Rattle.std.specs.Prelude.{Some, None}
use Rattle.cbc.specs.Cbc.{encrypted, decrypted, zeros}
use Rattle.cbc.specs.Aes.{decrypted-encrypted-aes}
use Rattle.cbc.specs.Lengths.{length-encrypted}
use Rattle.plaid_types.specs.Keys.{bytes_of}
use Rattle.plaid_types.specs.declared.Value.{Value}
use Rattle.reader_accept.specs.Accept.{deciphered_text, text_length, right_body, authenticated, body_length, has_record, acceptable, known_length, accept_number, number_of, accepted_of, work_after, record_part}
use Rattle.reader_accept.proofs.Laws.{number-seen}

-- Document 01: "the reply is record, DivData and padding", enciphered by CBC under KeysHash: the answer of a card that accepted. T-01: "A shorter
-- record is followed by a payload of zero bytes". The body is the record and that filler
abbrev pub card_reply : List ℕ → List ℕ → List ℕ → List ℕ
card_reply hash body div = encrypted (aes_under hash) zeros (blocks_for (length body + 16)) (padded (body ++ div))

-- 17 to 80 bytes take 2 to 6 blocks
known_at : (b : ℕ) → b ≤ 4 → known_length (16 * b + 32) ≡ true
unfolding known_length
known_at zero h = refl
known_at (suc zero) h = refl
known_at (suc (suc zero)) h = refl
known_at (suc (suc (suc zero))) h = refl
known_at (suc (suc (suc (suc zero)))) h = refl
known_at (suc (suc (suc (suc (suc b))))) h = absurd (omega arith)

known-blocks : (n : ℕ) → n ≤ 64 → known_length (16 * blocks_for (n + 16)) ≡ true
known-blocks n l =
    let e : 16 * blocks_for (n + 16) ≡ 16 * (n / 16) + 32 = omega arith in
    ap known_length e ∙ known_at (n / 16) (omega arith)

-- a padded text is rightly padded, and its text is as long as it was
right_by : (s : List ℕ) (n : ℕ) (b : Bool) → cond b (Some (text_length s)) None ≡ Some n → (b ≡ true) × (text_length s ≡ n)
right_by s n true e = (refl, cc)
right_by s n false e = absurd (let z : ◌≡◌ {A = ℕ} 0 1 = cc in omega arith)

right-padded : (t : List ℕ) → (rightly (padded t) ≡ true) × (text_length (padded t) ≡ length t)
unfolding unpadded
right-padded t = right_by (padded t) (length t) (rightly (padded t)) (unpadded-padded t)

-- the text of a reply: its length, its last sixteen bytes, and that it is authentic
module _ (body div : List ℕ) (ld : length div ≡ 16) where
  length_both : length (body ++ div) ≡ length body + 16
  length_both = length-append body div ∙ ap (λ (n : ℕ). length body + n) ld

  last_block : part (padded (body ++ div)) (length body) 16 ≡ div
  unfolding padded part
  last_block =
      let p : List ℕ = 0x80 ∷ replicate (zero_bytes (length (body ++ div))) 0 in
      ap (take 16) (drop-append-le (length body) (body ++ div) p (omega (arith, length_both)) ∙ ap (λ (x : List ℕ). x ++ p) (drop_at body div (length body) refl)) ∙ take_at div p 16 ld

  front-body : (d : List ℕ) (n : ℕ) → n ≤ length body → part (over d 0 (padded (body ++ div))) 0 n ≡ take n body
  unfolding part over padded
  front-body d n h =
      let p : List ℕ = 0x80 ∷ replicate (zero_bytes (length (body ++ div))) 0 in
      let r : List ℕ = drop (0 + length (padded (body ++ div))) d in
      ap (take n) (append_assoc (body ++ div) p r ∙ append_assoc body div (p ++ r)) ∙ take-append-le n body (div ++ (p ++ r)) h

  text-long : text_length (padded (body ++ div)) ≡ length body + 16
  text-long = (right-padded (body ++ div)).1 ∙ length_both

  body-long : body_length (padded (body ++ div)) ≡ length body
  body-long = let z : length body + 16 - 16 ≡ length body = omega arith in ap (λ (n : ℕ). n - 16) text-long ∙ z

  authentic : 1 ≤ length body → length body ≤ 64 → authenticated (padded (body ++ div)) div ≡ true
  unfolding authenticated right_body
  authentic h l =
      let z : length body + 16 - 16 ≡ length body = omega arith in
      rw (
        (right-padded (body ++ div)).0,
        text-long,
        le-leb (1 + 16) (length body + 16) (omega arith),
        le-leb (length body + 16) (64 + 16) (omega arith),
        z,
        last_block,
      )
      (same_refl div)

-- the body is 1 to 64 bytes, whatever they are, and key any bytes
module _ (key body div : List ℕ) (hk : Bytes key) (hb : Bytes body) (hd : Block div) (most : length body ≤ 64) where
  text-bytes : Bytes (padded (body ++ div))
  text-bytes = padded-bytes (body ++ div) (append-bytes body div hb hd.byte)

  text-blocks : length (padded (body ++ div)) ≡ 16 * blocks_for (length body + 16)
  text-blocks = length-padded (body ++ div) ∙ ap (λ (n : ℕ). 16 * blocks_for n) (length_both body div hd.long)

  length-reply : length (card_reply key body div) ≡ 16 * blocks_for (length body + 16)
  length-reply = length-encrypted (aes_under key) (length-aes (length key / 4) key) (blocks_for (length body + 16)) zeros (padded (body ++ div))

  known-reply : known_length (length (card_reply key body div)) ≡ true
  known-reply = ap known_length length-reply ∙ known-blocks (length body) most

  reply-text : deciphered_text key (card_reply key body div) ≡ padded (body ++ div)
  unfolding deciphered_text
  reply-text =
      let z : length (card_reply key body div) / 16 ≡ blocks_for (length body + 16) = omega (arith, length-reply) in
      ap (λ (n : ℕ). decrypted (inv_aes_under key) zeros n (card_reply key body div)) z
      ∙ decrypted-encrypted-aes (length key / 4) key hk zeros (padded (body ++ div)) (zeros-bytes 16) text-bytes (blocks_for (length body + 16)) text-blocks

-- the reply under KeysHash to a reader with keys of l bytes, where neither 21 nor 22 arises; len is any number
module _ (l : ℕ) (hash : Value) (one : is_key_length l ≡ true) (right : hash.length ≡ l) (body div : List ℕ) (len : ℕ) (work : List ℕ) (hh : Bytes (bytes_of hash)) (hb : Bytes body)
    (hd : Block div) (h : 1 ≤ length body) (most : length body ≤ 64) where
  -- with a work buffer that is shorter
  pub reply-short : length work < length (card_reply (bytes_of hash) body div) → (accepted_of l hash div len (card_reply (bytes_of hash) body div) (length work)).number ≡ 19
  unfolding accepted_of accept_number
  reply-short s =
      rw (one, eq-eqb hash.length l right, known-reply (bytes_of hash) body div hh hb hd most, lt-ltb (length work) (length (card_reply (bytes_of hash) body div)) s)

  -- with a work buffer that is long enough
  module _ (room : length (card_reply (bytes_of hash) body div) ≤ length work) where
    acceptable-is : acceptable (deciphered_text (bytes_of hash) (card_reply (bytes_of hash) body div)) div len ≡ has_record len (length body)
    unfolding acceptable
    acceptable-is = rw (reply-text (bytes_of hash) body div hh hb hd most, authentic body div hd.long h most, body-long body div hd.long)

    number_by : (b : Bool) → has_record len (length body) ≡ b → number_of l hash div len (card_reply (bytes_of hash) body div) (length work) ≡ cond b 0 20
    number_by b e =
        number-seen l hash (length (card_reply (bytes_of hash) body div)) (length work) (acceptable (deciphered_text (bytes_of hash) (card_reply (bytes_of hash) body div)) div len)
        (record { length-one = one; hash-right = right; length-known = known-reply (bytes_of hash) body div hh hb hd most; room-enough = room })
        ∙ ap (λ (t : Bool). cond t 0 20) (acceptable-is ∙ e)

    -- T-01: "A shorter body, or a length of 0, gives refusal 20", of a card's own reply too
    pub reply-other : has_record len (length body) ≡ false → accepted_of l hash div len (card_reply (bytes_of hash) body div) (length work) ≡ record { number = 20; length = 0 }
    unfolding accepted_of
    reply-other none = rw (number_by false none)

    -- a body that has so many bytes, and not none
    module _ (some : 1 ≤ len) (within : len ≤ length body) where
      number : number_of l hash div len (card_reply (bytes_of hash) body div) (length work) ≡ 0
      unfolding has_record
      number = number_by true (rw (le-leb 1 len some, le-leb len (length body) within))

      -- the number is 0, and the record's length is told: "hands back that many bytes"
      pub reply-accepted : accepted_of l hash div len (card_reply (bytes_of hash) body div) (length work) ≡ record { number = 0; length = len }
      unfolding accepted_of
      reply-accepted = rw number

      reply-work : work_after l hash div len (card_reply (bytes_of hash) body div) work ≡ over work 0 (padded (body ++ div))
      unfolding work_after
      reply-work = rw (number, reply-text (bytes_of hash) body div hh hb hd most)

      -- the part that is returned is the first so many bytes of the body
      pub reply-record : record_part (work_after l hash div len (card_reply (bytes_of hash) body div) work) (accepted_of l hash div len (card_reply (bytes_of hash) body div) (length work)) ≡ take len body
      reply-record = rw (reply-accepted, reply-work) (front-body body div hd.long work len within)
