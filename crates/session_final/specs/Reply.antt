-- The reply to a final command in document 01's words, whoever made the command, of every card that a load and any calls left (`Stocked`). Neither
-- the buffer of 96 bytes nor the bounds 64 and 6 of the definition cut or add a byte. Assumes nothing.
use Rattle.std.specs.Prelude.{◌≡◌, refl, true, false, List, ◌++◌, ℕ, ◌+◌, ◌*◌, ◌≤◌, ltb, length, drop, replicate}
use Rattle.std.proofs.Common.{ap, ap₂, ◌∙◌, arith, length-append}
use Rattle.octets.specs.Lists.{part, over, length_part}
use Rattle.octets.specs.Writes.{over-front}
use Rattle.aes.specs.Aes.{aes_under}
use Rattle.padding.specs.Method2.{blocks_for, padded}
use Rattle.padding.specs.Laws.{length-padded}
use Rattle.cbc.specs.Cbc.{encrypted, zeros}
use Rattle.cbc.specs.Laws.{encrypted-front}
use Rattle.plaid_types.specs.Keys.{key_length_of, held}
use Rattle.plaid_types.specs.declared.ModeSlot.{ModeSlot}
use Rattle.plaid_types.specs.declared.Card.{Card}
use Rattle.load.proofs.Laws.{mode_at, GoodRecord, Stocked}
use Rattle.final_command.specs.Final.{text_of, card_keys_hash, op_mode, mode_of, accepts_final, reply_key, record_of, size_of, body_of, reply_text, reply_buffer, final_bytes, final_reply}
use Rattle.final_command.specs.Laws.{size-loaded, least-is, body-blocks}
use Rattle.session_final.specs.Accepts.{named-found}

-- a record of at most 64 bytes is replied whole
record-whole : (area : List ℕ) (m : ModeSlot) → m.len ≤ 64 → record_of area m ≡ part area m.start m.len
unfolding record_of
record-whole area m h = ap (part area m.start) (least-is m.len 64 (ltb m.len 64) refl h)

-- encrypting the blocks of a text in a buffer's front is encrypting the text
encrypted-over : (ciph : List ℕ → List ℕ) (b s : List ℕ) (n : ℕ) → length s ≡ 16 * n → encrypted ciph zeros n (over b 0 s) ≡ encrypted ciph zeros n s
encrypted-over ciph b s n e = ap (encrypted ciph zeros n) (over-front b s) ∙ encrypted-front ciph n zeros s (drop (length s) b) (omega arith)

pub bytes-by : (key key' : List ℕ) (n m : ℕ) (s t : List ℕ) → key ≡ key' → n ≡ m → s ≡ t → encrypted (aes_under key) zeros n s ≡ encrypted (aes_under key') zeros m t
bytes-by key key' n m s t p q r =
    ap (λ (x : List ℕ). encrypted (aes_under x) zeros n s) p ∙ ap₂ (λ (x : ℕ) (y : List ℕ). encrypted (aes_under key') zeros x y) q r

-- the slot of the mode that the deciphered text names, and its record: "start and length in a record area"
abbrev pub named_slot : Card → List ℕ → ModeSlot
named_slot c d = mode_at c (mode_of c d)

abbrev pub record_at : Card → ModeSlot → List ℕ
record_at c m = part c.area m.start m.len

abbrev pub named_record : Card → List ℕ → List ℕ
named_record c d = record_at c (named_slot c d)

-- T-01: the record with its "payload of zero bytes up to 16(B − 2) bytes in all"
abbrev pub body_at : Card → ModeSlot → List ℕ
body_at c m = body_of (record_at c m) c.reply_size

abbrev pub named_body : Card → List ℕ → List ℕ
named_body c d = body_at c (named_slot c d)

-- a record of a stocked card is as long as its slot says, and its body fills B blocks with DivData and padding
module _ (c : Card) (m : ModeSlot) (g : Stocked c) (r : GoodRecord m c.reply_size) where
  pub length-record : length (record_at c m) ≡ m.len
  length-record = length_part c.area m.start m.len (omega (arith, r.inside, g.area-long))

  pub body-size : blocks_for (length (body_at c m) + 16) ≡ c.reply_size
  body-size = body-blocks (record_at c m) c.reply_size (omega (arith, length-record, r.size))

  pub body-fills : length (padded (body_at c m ++ c.div_data)) ≡ 16 * c.reply_size
  body-fills =
      length-padded (body_at c m ++ c.div_data)
      ∙ ap (λ (n : ℕ). 16 * blocks_for n) (length-append (body_at c m) c.div_data ∙ ap (λ (n : ℕ). length (body_at c m) + n) g.div-long)
      ∙ ap (λ (n : ℕ). 16 * n) body-size

-- what the definition enciphers
abbrev text_by : Card → List ℕ → List ℕ → List ℕ
text_by c d fresh = reply_text (accepts_final c d) c.area (named_slot c d) c.div_data fresh (size_of c)

-- a reply whose key and text are known, the text of B blocks
reply-by : (c : Card) (d fresh key text : List ℕ) → Stocked c → reply_key c d ≡ key → text_by c d fresh ≡ text → length text ≡ 16 * c.reply_size →
    (final_reply c d fresh).bytes ≡ encrypted (aes_under key) zeros c.reply_size text
unfolding final_reply final_bytes reply_buffer
reply-by c d fresh key text g p q l =
    bytes-by (reply_key c d) key (size_of c) c.reply_size (reply_buffer c d fresh) (over (replicate 96 0) 0 text) p (size-loaded c g.size-most)
    (ap (over (replicate 96 0) 0) q)
    ∙ encrypted-over (aes_under key) (replicate 96 0) text c.reply_size l

-- "Then the reply is record, DivData and padding under KeysHash by CBC." T-01: "A shorter record is followed by a payload of zero bytes"
pub record AcceptedReply (c : Card) (d fresh : List ℕ) : Type 0 where
  -- "the mode is held": the slot is, and it is that of the mode which bytes 0 and 1 of the text name
  pub is_held : (named_slot c d).held ≡ true
  pub is-mode : (named_slot c d).id ≡ op_mode (text_of c d)
  -- "record": as many bytes of the record area as the load said
  pub record-long : length (named_record c d) ≡ (named_slot c d).len
  -- "encipher B blocks": body, DivData and padding are B blocks, and nothing else stands there
  pub fills : length (padded (named_body c d ++ c.div_data)) ≡ 16 * c.reply_size
  -- "record", its payload, "DivData and padding under KeysHash by CBC"
  pub replied : (final_reply c d fresh).bytes ≡ encrypted (aes_under (card_keys_hash c d)) zeros c.reply_size (padded (named_body c d ++ c.div_data))

module _ (c : Card) (d fresh : List ℕ) (g : Stocked c) where
  module _ (e : accepts_final c d ≡ true) where
    good-named : GoodRecord (named_slot c d) c.reply_size
    good-named = g.good (mode_of c d) (named-found c d g e).is_held

    key-accepted : reply_key c d ≡ card_keys_hash c d
    unfolding reply_key
    key-accepted = rw e

    text-accepted : text_by c d fresh ≡ padded (named_body c d ++ c.div_data)
    unfolding reply_text
    text-accepted = rw (e, record-whole c.area (named_slot c d) good-named.most_bytes, size-loaded c g.size-most)

    pub accepted-reply : AcceptedReply c d fresh
    accepted-reply =
        record {
          is_held = (named-found c d g e).is_held;
          is-mode = (named-found c d g e).is-mode;
          record-long = length-record c (named_slot c d) g good-named;
          fills = body-fills c (named_slot c d) g good-named;
          replied =
              reply-by c d fresh (card_keys_hash c d) (padded (named_body c d ++ c.div_data)) g key-accepted text-accepted
              (body-fills c (named_slot c d) g good-named);
        }

  -- "Otherwise the first 16B fresh bytes go by CBC under the shill key, unpadded." T-04: of the card's L bytes. (That a call gets 253 fresh bytes is checked before)
  module _ (e : accepts_final c d ≡ false) (h : length fresh ≡ 253) where
    key-refused : reply_key c d ≡ held (key_length_of c) c.shill_key
    unfolding reply_key
    key-refused = rw e

    text-refused : text_by c d fresh ≡ part fresh 0 (16 * c.reply_size)
    unfolding reply_text
    text-refused = rw (e, size-loaded c g.size-most)

    pub refused-reply : (final_reply c d fresh).bytes ≡ encrypted (aes_under (held (key_length_of c) c.shill_key)) zeros c.reply_size (part fresh 0 (16 * c.reply_size))
    refused-reply =
        reply-by c d fresh (held (key_length_of c) c.shill_key) (part fresh 0 (16 * c.reply_size)) g key-refused text-refused
        (length_part fresh 0 (16 * c.reply_size) (omega (arith, g.size-most)))
