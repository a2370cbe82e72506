-- The reverse of `RoundTrip.antt`: a response that Accept takes is the card's reply, byte for byte, for a body whose first bytes are the record that
-- Accept returns. Assumes nothing.
use Rattle.std.specs.Prelude.{◌≡◌, true, ℕ, ◌+◌, ◌-◌, ◌/◌, ◌≤◌, length, take, drop}
use Rattle.std.proofs.Math.Path.{sym, ap₂}
use Rattle.std.proofs.Common.{ap, ◌∙◌, arith, leb-true, take-add, take-take}
use mathlib.Core.List.{List, ◌++◌}
use Rattle.std.proofs.lemmas.List.{take-append-le}
use Rattle.octets.specs.Bytes.{Bytes, Block}
use Rattle.octets.specs.Same.{split-and, same_true}
use Rattle.octets.specs.Lists.{part, over, length_part}
use Rattle.octets.specs.Writes.{over-front}
use Rattle.octets.specs.ByteLists.{zeros-bytes, part_bytes}
use Rattle.key_expansion.specs.KeyLength.{is_key_length}
use Rattle.aes.specs.Aes.{aes_under, inv_aes_under}
use Rattle.padding.specs.Method2.{blocks_for, padded, unpadded, rightly}
use Rattle.padding.specs.Laws.{unpadded-lt, unpadded-whole, padded-unpadded}
use Rattle.std.specs.Prelude.{Some}
use Rattle.cbc.specs.Cbc.{encrypted, zeros}
use Rattle.cbc.specs.Laws.{decrypted-bytes}
use Rattle.cbc.specs.Aes.{aes-cipher, encrypted-decrypted-aes}
use Rattle.plaid_types.specs.Keys.{bytes_of}
use Rattle.plaid_types.specs.declared.Value.{Value}
use Rattle.reader_accept.specs.Accept.{deciphered_text, text_length, right_body, authenticated, body_length, has_record, acceptable, number_of, accepted_of, work_after, record_part}
use Rattle.reader_accept.proofs.Laws.{Known, known, length-text, Seen, number-none}
use Rattle.reader_accept.proofs.RoundTrip.{card_reply}

-- "unpad; the last 16 bytes must be DivData and 1 to 64 bytes must stand before them"
record Authentic (s div : List ℕ) : Type 0 where
  unpads : unpadded s ≡ Some (text_length s)
  least : 1 + 16 ≤ text_length s
  most : text_length s ≤ 64 + 16
  last : part s (text_length s - 16) 16 ≡ div

authentic-by : (s div : List ℕ) → authenticated s div ≡ true → Authentic s div
unfolding authenticated right_body unpadded
authentic-by s div e =
    let a = split-and _ _ e in
    let r : rightly s ≡ true = a.0 in
    let b = split-and _ _ a.1 in
    let m = split-and _ _ b.1 in
    record {
      unpads = rw r;
      least = leb-true (1 + 16) (text_length s) b.0;
      most = leb-true (text_length s) (64 + 16) m.0;
      last = same_true (part s (text_length s - 16) 16) div m.1;
    }

-- a body that has so many bytes, and not none
has-by : (len body : ℕ) → has_record len body ≡ true → (1 ≤ len) × (len ≤ body)
unfolding has_record
has-by len body e = let a = split-and _ _ e in (leb-true 1 len a.0, leb-true len body a.1)

-- both, of a response
record Acceptable (s div : List ℕ) (len : ℕ) : Type 0 where
  body : Authentic s div
  has : (1 ≤ len) × (len ≤ body_length s)

acceptable-by : (s div : List ℕ) (len : ℕ) → acceptable s div len ≡ true → Acceptable s div len
unfolding acceptable
acceptable-by s div len e = let a = split-and _ _ e in record { body = authentic-by s div a.0; has = has-by len (body_length s) a.1 }

-- a front of a list and the part behind it; a front of a text that stands over a buffer, and of a longer front of the text
front-and-part : (s : List ℕ) (n k : ℕ) → part s 0 n ++ part s n k ≡ take (n + k) s
unfolding part
front-and-part s n k = sym (take-add n k s)

over-taken : (b s : List ℕ) (n m : ℕ) → n ≤ m → n ≤ length s → part (over b 0 s) 0 n ≡ part (part s 0 m) 0 n
unfolding part
over-taken b s n m l h = ap (take n) (over-front b s) ∙ take-append-le n s (drop (length s) b) h ∙ sym (take-take n m s l)

-- what Accept returns: a part of the work buffer afterwards
abbrev pub returned : ℕ → Value → List ℕ → ℕ → List ℕ → List ℕ → List ℕ
returned l hash div len response work = record_part (work_after l hash div len response work) (accepted_of l hash div len response (length work))

-- the body of a response: what "must stand before" DivData
abbrev pub body_in : Value → List ℕ → List ℕ
body_in hash response = part (deciphered_text (bytes_of hash) response) 0 (body_length (deciphered_text (bytes_of hash) response))

-- the response is the reply for its body, and the body's first bytes are returned. The filler's bytes, which T-01 has a card make zero, are not looked
-- at: behind its first len bytes the body may be any
pub record IsReply (l : ℕ) (hash : Value) (div : List ℕ) (len : ℕ) (response work : List ℕ) : Type 0 where
  -- T-04: neither 21 nor 22
  pub length-one : is_key_length l ≡ true
  pub hash-right : hash.length ≡ l
  -- not "a length of 0", nor "a shorter body"
  pub some_bytes : 1 ≤ len
  pub within : len ≤ length (body_in hash response)
  -- "1 to 64 bytes"
  pub most_bytes : length (body_in hash response) ≤ 64
  pub body_bytes : Bytes (body_in hash response)
  pub div-block : Block div
  -- "hands back that many bytes"
  pub record-first : returned l hash div len response work ≡ part (body_in hash response) 0 len
  pub record-long : length (returned l hash div len response work) ≡ len
  -- "the reply is record, DivData and padding under KeysHash by CBC", and "A shorter record is followed by a payload"
  pub replied : response ≡ card_reply (bytes_of hash) (body_in hash response) div

-- KeysHash and the response are bytes. (Nothing is asked of the work buffer, nor of len; that DivData is a block follows)
module _ (l : ℕ) (hash : Value) (div : List ℕ) (len : ℕ) (response work : List ℕ) (hh : Bytes (bytes_of hash)) (hr : Bytes response)
    (e : (accepted_of l hash div len response (length work)).number ≡ 0) where
  number : number_of l hash div len response (length work) ≡ 0
  unfolding accepted_of
  number = e

  gone : Seen l hash (length response) (length work) × (acceptable (deciphered_text (bytes_of hash) response) div len ≡ true)
  gone = number-none l hash (length response) (length work) (acceptable (deciphered_text (bytes_of hash) response) div len) number

  sized : Known (length response)
  sized = known (length response) gone.0.length-known

  all_seen : Acceptable (deciphered_text (bytes_of hash) response) div len
  all_seen = acceptable-by (deciphered_text (bytes_of hash) response) div len gone.1

  seen : Authentic (deciphered_text (bytes_of hash) response) div
  seen = all_seen.body

  text-less : text_length (deciphered_text (bytes_of hash) response) ≤ length (deciphered_text (bytes_of hash) response)
  text-less = omega (arith, unpadded-lt (deciphered_text (bytes_of hash) response) (text_length (deciphered_text (bytes_of hash) response)) seen.unpads)

  length-body : length (body_in hash response) ≡ body_length (deciphered_text (bytes_of hash) response)
  length-body = length_part (deciphered_text (bytes_of hash) response) 0 (body_length (deciphered_text (bytes_of hash) response)) (omega (arith, text-less))

  returned-is : returned l hash div len response work ≡ part (body_in hash response) 0 len
  unfolding work_after accepted_of
  returned-is =
      rw number
      (over-taken work (deciphered_text (bytes_of hash) response) len (body_length (deciphered_text (bytes_of hash) response)) all_seen.has.1
      (omega (arith, all_seen.has.1, text-less)))

  -- the body and DivData, padded, are the deciphered bytes
  text-is : padded (body_in hash response ++ div) ≡ deciphered_text (bytes_of hash) response
  text-is =
      let s : List ℕ = deciphered_text (bytes_of hash) response in
      let all : body_length s + 16 ≡ text_length s = omega (arith, seen.least) in
      ap (λ (y : List ℕ). padded (body_in hash response ++ y)) (sym seen.last)
      ∙ ap padded (front-and-part s (body_length s) 16 ∙ ap (λ (n : ℕ). take n s) all)
      ∙ padded-unpadded s (text_length s) seen.unpads

  blocks_is : blocks_for (length (body_in hash response) + 16) ≡ length response / 16
  blocks_is =
      let s : List ℕ = deciphered_text (bytes_of hash) response in
      omega (arith, length-body, seen.least, unpadded-whole s (text_length s) seen.unpads, length-text (bytes_of hash) response sized.whole, sized.whole)

  replied-is : response ≡ card_reply (bytes_of hash) (body_in hash response) div
  unfolding deciphered_text
  replied-is =
      sym (encrypted-decrypted-aes (length (bytes_of hash) / 4) (bytes_of hash) hh zeros response (zeros-bytes 16) hr (length response / 16) (omega (arith, sized.whole)))
      ∙ ap₂ (λ (n : ℕ) (t : List ℕ). encrypted (aes_under (bytes_of hash)) zeros n t) (sym blocks_is) (sym text-is)

  text-bytes : Bytes (deciphered_text (bytes_of hash) response)
  unfolding deciphered_text
  text-bytes =
      decrypted-bytes (aes_under (bytes_of hash)) (inv_aes_under (bytes_of hash)) (aes-cipher (length (bytes_of hash) / 4) (bytes_of hash) hh) zeros response (zeros-bytes 16) hr (length response / 16)
      (omega (arith, sized.whole))

  block-is : Block div
  block-is =
      let s : List ℕ = deciphered_text (bytes_of hash) response in
      rw (← seen.last) (record {
        long = length_part s (body_length s) 16 (omega (arith, text-less, seen.least));
        byte = part_bytes s (body_length s) 16 text-bytes;
      })

  pub accepted-is-reply : IsReply l hash div len response work
  accepted-is-reply =
      let inside : len ≤ length (body_in hash response) = omega (arith, length-body, all_seen.has.1) in
      record {
        length-one = gone.0.length-one;
        hash-right = gone.0.hash-right;
        some_bytes = all_seen.has.0;
        within = inside;
        most_bytes = omega (arith, length-body, seen.most);
        body_bytes = part_bytes (deciphered_text (bytes_of hash) response) 0 (body_length (deciphered_text (bytes_of hash) response)) text-bytes;
        div-block = block-is;
        record-first = returned-is;
        record-long = ap length returned-is ∙ length_part (body_in hash response) 0 len (omega (arith, inside));
        replied = replied-is;
      }
