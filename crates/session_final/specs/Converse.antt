-- The reverse of "what one seals the other opens": data that a card accepts are the data of Seal's command, byte for byte, for the mode, RND2 and
-- payload that its text names. Assumes nothing.
use Rattle.std.specs.Prelude.{◌≡◌, true, length, drop, replicate}
use Rattle.std.proofs.Math.Path.{refl, sym, ap, ap₂}
use Rattle.std.proofs.Common.{◌∙◌, arith, length-drop, take-append-drop, drop_of_length-le, drop-cons, drop-drop, take-add}
use mathlib.Core.List.{List, [], ◌∷◌, ◌++◌}
use Prim.Native.Nat.{ℕ, suc, ◌+◌, ◌-◌, ◌*◌, ◌/◌, ◌%◌, ◌<◌, ◌≤◌}
use Rattle.std.proofs.Math.ListN.{get_or, take, get_or-append}
use Rattle.std.proofs.lemmas.List.{take-append-le, drop-append-le}
use Rattle.octets.specs.Bytes.{Bytes, Block}
use Rattle.octets.specs.Lists.{part, over, length_part}
use Rattle.octets.specs.Writes.{over-front}
use Rattle.octets.specs.ByteLists.{part_bytes, zeros-bytes}
use Rattle.aes.specs.Aes.{aes_under, inv_aes_under}
use Rattle.padding.specs.Method2.{blocks_for, padded, end, rightly, unpadded}
use Rattle.padding.specs.Laws.{unpadded-lt, unpadded-whole, padded-unpadded}
use Rattle.std.specs.Prelude.{Some}
use Rattle.cbc.specs.Cbc.{encrypted, decrypted, zeros}
use Rattle.cbc.specs.Laws.{decrypted-bytes}
use Rattle.cbc.specs.Aes.{aes-cipher, encrypted-decrypted-aes}
use Rattle.cbc.specs.Lengths.{length-decrypted}
use Rattle.frame.specs.Frame.{frame_of, ins_of, final_ins, status_of, data_of}
use Rattle.frame.specs.Laws.{Faultless, faultless, frame_byte, frame-last, data-long}
use Rattle.plaid_types.specs.Keys.{key_length_of}
use Rattle.plaid_types.specs.declared.OpModeId.{OpModeId}
use Rattle.plaid_types.specs.declared.Card.{Card}
use Rattle.load.proofs.Laws.{Stocked}
use Rattle.final_command.specs.Final.{fa_key_of, rnd1_of, diversified, blocks_in, text_of, hashed_of, card_keys_hash, op_mode, mode_of, deciphered_text, accepts_final}
use Rattle.diversification.specs.Diversification.{diversified_by}
use Rattle.diversification.specs.Laws.{diversified-bytes}
use Rattle.reader_seal.specs.Seal.{keys_hash_of, str2, sealed_data, final_command, seal_command, payload_most}
use Rattle.reader_seal.specs.Laws.{length-sealed_data}
use Rattle.session_final.specs.SealFrame.{seal-data}
use Rattle.session_final.specs.Buffer.{over-part}
use Rattle.session_final.specs.SealText.{SharedSession, sealed}
use Rattle.session_final.specs.Accepts.{SixConditions, six-conditions, Found, named-found}
use Rattle.session_final.specs.Reply.{named_slot}

-- a front of a list by its parts: two elements, and then n, m and k
pub front-parts : (l : List ℕ) (n m k : ℕ) → 2 ≤ length l →
    take (2 + (n + (m + k))) l ≡ get_or l 0 0 ∷ get_or l 1 0 ∷ (part l 2 n ++ (part l (2 + n) m ++ part l (2 + n + m) k))
unfolding part
front-parts l n m k h =
    let two : 2 + (n + (m + k)) ≡ suc (suc (n + (m + k))) = omega arith in
    let r : List ℕ = drop 2 l in
    ap₂ take two (drop-cons l 0 0 (omega arith) ∙ ap (λ (t : List ℕ). get_or l 0 0 ∷ t) (drop-cons l 1 0 (omega arith)))
    ∙ ap (λ (t : List ℕ). get_or l 0 0 ∷ get_or l 1 0 ∷ t)
    (take-add n (m + k) r
    ∙ ap (λ (t : List ℕ). take n r ++ take (m + k) t) (drop-drop n 2 l)
    ∙ ap (λ (t : List ℕ). take n r ++ t)
    (take-add m k (drop (2 + n) l) ∙ ap (λ (t : List ℕ). take m (drop (2 + n) l) ++ take k t) (drop-drop m (2 + n) l)))

-- a part that stands within the front
part-front : (s t : List ℕ) (p n : ℕ) → p + n ≤ length s → part (s ++ t) p n ≡ part s p n
unfolding part
part-front s t p n h = ap (take n) (drop-append-le p s t (omega arith)) ∙ take-append-le n (drop p s) t (omega (arith, length-drop p s))

-- what is rightly padded unpads to the bytes before its 0x80
unpads : (s : List ℕ) → rightly s ≡ true → unpadded s ≡ Some (end s - 1)
unfolding unpadded
unpads s e = rw e

-- what the deciphered text has: "OpModeID, RND2, payload .., KeysHash"; the payload stands between RND2 and KeysHash
abbrev pub mode_in : Card → List ℕ → OpModeId
mode_in c d = op_mode (text_of c d)

abbrev pub rnd2_in : Card → List ℕ → List ℕ
rnd2_in c d = part (text_of c d) 2 (key_length_of c)

abbrev pub payload_in : Card → List ℕ → List ℕ
payload_in c d = part (deciphered_text c d) (2 + key_length_of c) (end (deciphered_text c d) - 1 - (2 + 2 * key_length_of c))

-- data that are sealed for card c
pub record SealedFor (c : Card) (d : List ℕ) : Type 0 where
  -- the session is open, and these are a mode number, RND2 and payload that Seal may be given (`seal-accepted` takes them)
  pub shared : SharedSession (key_length_of c) c (fa_key_of c) (rnd1_of c) (rnd2_in c d) (mode_in c d) (payload_in c d)
  -- "payload of 0 to 205 bytes". T-04: "Payload limits are 205, 189 and 173"
  pub payload-most : length (payload_in c d) ≤ payload_most (key_length_of c)
  -- "the mode is held"
  pub mode-held : Found (named_slot c d) (mode_in c d)
  -- "KeysHash is the first 16 bytes of the hash", at both ends. T-04: "SHA-256 output is cut to L"
  pub one-hash : card_keys_hash c d ≡ keys_hash_of (key_length_of c) (rnd1_of c) (rnd2_in c d)
  -- "STR2 = OpModeID, RND2, payload .., KeysHash, padded, CBC under the diversified key"
  pub sealed-text : d ≡ sealed_data (key_length_of c) (diversified c) (mode_in c d) (rnd2_in c d) (payload_in c d) (card_keys_hash c d)
  -- the data of Seal's command
  pub by-seal : d ≡ sealed (key_length_of c) c (fa_key_of c) (rnd1_of c) (rnd2_in c d) (mode_in c d) (payload_in c d)

-- FAKey, DivData and the data are bytes, and the data are so many as a frame has at most. (Nothing is asked of RND1)
module _ (c : Card) (d : List ℕ) (g : Stocked c) (hf : Bytes (fa_key_of c)) (hv : Bytes c.div_data) (hd : Bytes d) (most : length d < 256)
    (e : accepts_final c d ≡ true) where
  six : SixConditions (key_length_of c) c.session.opened (length d) (deciphered_text c d) (card_keys_hash c d) (mode_of c d)
  six = six-conditions c d e

  div-block : Block c.div_data
  div-block = record { long = g.div-long; byte = hv }

  abbrev l : ℕ
  l = key_length_of c

  key-bytes : Bytes (diversified c)
  unfolding diversified
  key-bytes = diversified-bytes (fa_key_of c) c.div_data hf div-block

  length-data : length d ≡ 16 * blocks_in d
  length-data = omega (arith, six.whole)

  -- the text is what is deciphered, in front of zeros
  plain-is : deciphered_text c d ≡ decrypted (inv_aes_under (diversified c)) zeros (blocks_in d) d
  unfolding deciphered_text text_of
  plain-is =
      over-part (replicate 240 0) (decrypted (inv_aes_under (diversified c)) zeros (blocks_in d) d) (16 * blocks_in d)
      (length-decrypted (inv_aes_under (diversified c)) (blocks_in d) zeros d)

  length-plain : length (deciphered_text c d) ≡ 16 * blocks_in d
  length-plain = ap length plain-is ∙ length-decrypted (inv_aes_under (diversified c)) (blocks_in d) zeros d

  plain-bytes : Bytes (deciphered_text c d)
  plain-bytes =
      rw plain-is
      (decrypted-bytes (aes_under (diversified c)) (inv_aes_under (diversified c)) (aes-cipher (length (diversified c) / 4) (diversified c) key-bytes) zeros d (zeros-bytes 16) hd (blocks_in d)
      (omega (arith, length-data)))

  text-front : text_of c d ≡ deciphered_text c d ++ drop (length (deciphered_text c d)) (replicate 240 0)
  unfolding text_of
  text-front = ap (over (replicate 240 0) 0) (sym plain-is) ∙ over-front (replicate 240 0) (deciphered_text c d)

  -- the text without its padding: as many bytes
  abbrev size : ℕ
  size = end (deciphered_text c d) - 1

  text-is : unpadded (deciphered_text c d) ≡ Some size
  text-is = unpads (deciphered_text c d) six.right

  size_less : size < 16 * blocks_in d
  size_less = omega (arith, unpadded-lt (deciphered_text c d) size text-is, length-plain)

  length-payload : length (payload_in c d) ≡ size - (2 + 2 * l)
  length-payload = length_part (deciphered_text c d) (2 + l) (size - (2 + 2 * l)) (omega (arith, size_less, length-plain, six.long))

  -- its first two bytes are the mode, RND2 follows, and its last L bytes are KeysHash
  byte_at : (i : ℕ) → i < length (deciphered_text c d) → get_or (text_of c d) i 0 ≡ get_or (deciphered_text c d) i 0
  byte_at i h =
      ap (λ (x : List ℕ). get_or x i 0) text-front
      ∙ get_or-append (deciphered_text c d) (drop (length (deciphered_text c d)) (replicate 240 0)) 0 i h

  enough : 2 + 2 * l < length (deciphered_text c d)
  enough = omega (arith, size_less, length-plain, six.long)

  high_is : (mode_in c d).0 / 256 ≡ get_or (deciphered_text c d) 0 0
  unfolding op_mode
  high_is = omega (arith, enough, byte_at 0 (omega (arith, enough)), byte_at 1 (omega (arith, enough)), plain-bytes 1)

  low-is : (mode_in c d).0 % 256 ≡ get_or (deciphered_text c d) 1 0
  unfolding op_mode
  low-is = omega (arith, enough, byte_at 0 (omega (arith, enough)), byte_at 1 (omega (arith, enough)), plain-bytes 1)

  rnd2-is : rnd2_in c d ≡ part (deciphered_text c d) 2 l
  rnd2-is =
      ap (λ (x : List ℕ). part x 2 l) text-front
      ∙ part-front (deciphered_text c d) (drop (length (deciphered_text c d)) (replicate 240 0)) 2 l (omega (arith, enough))

  str2-is : str2 (mode_in c d) (rnd2_in c d) (payload_in c d) (card_keys_hash c d) ≡ take size (deciphered_text c d)
  unfolding str2
  str2-is =
      let s : List ℕ = deciphered_text c d in
      let at : size - l ≡ 2 + l + (size - (2 + 2 * l)) = omega (arith, six.long) in
      let all : 2 + (l + (size - (2 + 2 * l) + l)) ≡ size = omega (arith, six.long) in
      ap₂ (λ (x y : ℕ). x ∷ y ∷ (rnd2_in c d ++ (payload_in c d ++ card_keys_hash c d))) high_is low-is
      ∙ ap₂ (λ (x y : List ℕ). get_or s 0 0 ∷ get_or s 1 0 ∷ (x ++ (payload_in c d ++ y))) rnd2-is (sym six.last ∙ ap (λ (n : ℕ). part s n l) at)
      ∙ sym (front-parts s l (size - (2 + 2 * l)) l (omega (arith, enough)))
      ∙ ap (λ (n : ℕ). take n s) all

  blocks_is : blocks_for (2 + 2 * l + length (payload_in c d)) ≡ blocks_in d
  blocks_is = omega (arith, length-payload, six.long, unpadded-whole (deciphered_text c d) size text-is, length-plain)

  -- padded and enciphered again, it is the data
  sealed-again : sealed_data (key_length_of c) (diversified c) (mode_in c d) (rnd2_in c d) (payload_in c d) (card_keys_hash c d) ≡ d
  unfolding sealed_data
  sealed-again =
      ap₂ (λ (n : ℕ) (t : List ℕ). encrypted (aes_under (diversified c)) zeros n t) blocks_is
      (ap padded str2-is ∙ padded-unpadded (deciphered_text c d) size text-is ∙ plain-is)
      ∙ encrypted-decrypted-aes (length (diversified c) / 4) (diversified c) key-bytes zeros d (zeros-bytes 16) hd (blocks_in d) length-data

  hash-is : card_keys_hash c d ≡ keys_hash_of (key_length_of c) (rnd1_of c) (rnd2_in c d)
  unfolding card_keys_hash keys_hash_of hashed_of
  hash-is = refl

  by-seal-is : d ≡ sealed (key_length_of c) c (fa_key_of c) (rnd1_of c) (rnd2_in c d) (mode_in c d) (payload_in c d)
  unfolding diversified
  by-seal-is =
      sym sealed-again
      ∙ ap (sealed_data (key_length_of c) (diversified c) (mode_in c d) (rnd2_in c d) (payload_in c d)) hash-is
      ∙ sym (seal-data (key_length_of c) (fa_key_of c) c.div_data (rnd1_of c) (rnd2_in c d) (mode_in c d) (payload_in c d))

  pub accepted-sealed : SealedFor c d
  accepted-sealed =
      record {
        shared =
            record {
              same_length = refl;
              in-session = six.in-session;
              same_key = refl;
              same-rnd1 = refl;
              key-bytes = hf;
              div-block = div-block;
              rnd2-long = ap length rnd2-is ∙ length_part (deciphered_text c d) 2 l (omega (arith, enough));
              rnd2-bytes = rw rnd2-is (part_bytes (deciphered_text c d) 2 l plain-bytes);
              payload-bytes = part_bytes (deciphered_text c d) (2 + l) (size - (2 + 2 * l)) plain-bytes;
              mode-most = omega (arith, high_is, plain-bytes 0);
            };
        payload-most = omega (arith, length-payload, size_less, length-data);
        mode-held = named-found c d g e;
        one-hash = hash-is;
        sealed-text = sym sealed-again;
        by-seal = by-seal-is;
      }

-- a command of 6 + n bytes: its first five, n, and the last
command-parts : (l : List ℕ) (n : ℕ) → length l ≡ 6 + n →
    l ≡ get_or l 0 0 ∷ get_or l 1 0 ∷ get_or l 2 0 ∷ get_or l 3 0 ∷ get_or l 4 0 ∷ (part l 5 n ++ (get_or l (5 + n) 0 ∷ []))
unfolding part
command-parts l n h =
    let a : drop 5 l ≡ take n (drop 5 l) ++ (get_or l (5 + n) 0 ∷ []) =
    sym (take-append-drop n (drop 5 l))
    ∙ ap (λ (t : List ℕ). take n (drop 5 l) ++ t)
    (drop-drop n 5 l
    ∙ drop-cons l (5 + n) 0 (omega arith)
    ∙ ap (λ (t : List ℕ). get_or l (5 + n) 0 ∷ t) (drop_of_length-le l {i = suc (5 + n)} (omega arith))) in
    drop-cons l 0 0 (omega arith)
    ∙ ap (λ (t : List ℕ). get_or l 0 0 ∷ t) (drop-cons l 1 0 (omega arith)
    ∙ ap (λ (t : List ℕ). get_or l 1 0 ∷ t) (drop-cons l 2 0 (omega arith)
    ∙ ap (λ (t : List ℕ). get_or l 2 0 ∷ t) (drop-cons l 3 0 (omega arith)
    ∙ ap (λ (t : List ℕ). get_or l 3 0 ∷ t) (drop-cons l 4 0 (omega arith) ∙ ap (λ (t : List ℕ). get_or l 4 0 ∷ t) a))))

-- a final command whose frame has no fault is "framed as a final command": 00 86 00 00, Lc, the data, 00
framed-again : (cmd : List ℕ) → Faultless (length cmd) (frame_of cmd) → ins_of (frame_of cmd) ≡ final_ins → cmd ≡ final_command (length (data_of cmd)) (data_of cmd)
unfolding final_command data_of
framed-again cmd k i =
    let at : 5 + (length cmd - 6) ≡ length cmd - 1 = omega arith in
    command-parts cmd (length cmd - 6) (omega arith)
    ∙ rw (
      at,
      sym (frame_byte cmd 0 (omega arith)) ∙ k.cla,
      sym (frame_byte cmd 1 (omega arith)) ∙ i,
      sym (frame_byte cmd 2 (omega arith)) ∙ k.p1,
      sym (frame_byte cmd 3 (omega arith)) ∙ k.p2,
      sym (frame_byte cmd 4 (omega arith)) ∙ sym (data-long cmd k),
      sym (frame-last cmd (omega arith)) ∙ k.le,
    )

pub data-bytes : (cmd : List ℕ) → Bytes cmd → Bytes (data_of cmd)
unfolding data_of
data-bytes cmd h = part_bytes cmd 5 (length cmd - 6) h

-- so a final command that a card accepts is Seal's command, byte for byte
pub accepted-command : (c : Card) (cmd : List ℕ) → Stocked c → Bytes (fa_key_of c) → Bytes c.div_data → Bytes cmd →
    status_of (length cmd) (frame_of cmd) ≡ 0x9000 → ins_of (frame_of cmd) ≡ final_ins → accepts_final c (data_of cmd) ≡ true →
    cmd ≡ seal_command (key_length_of c) (fa_key_of c) c.div_data (rnd1_of c) (rnd2_in c (data_of cmd)) (mode_in c (data_of cmd)) (payload_in c (data_of cmd))
unfolding seal_command
accepted-command c cmd g hf hv hb q i e =
    let d : List ℕ = data_of cmd in
    let k : Faultless (length cmd) (frame_of cmd) = faultless (length cmd) (frame_of cmd) q in
    let most : length d < 256 = omega (arith, data-long cmd k, frame_byte cmd 4 (omega arith), hb 4) in
    let key : List ℕ = diversified_by (fa_key_of c) c.div_data in
    let hash : List ℕ = keys_hash_of (key_length_of c) (rnd1_of c) (rnd2_in c d) in
    let x : d ≡ sealed_data (key_length_of c) key (mode_in c d) (rnd2_in c d) (payload_in c d) hash =
    (accepted-sealed c d g hf hv (data-bytes cmd hb) most e).by-seal
    ∙ seal-data (key_length_of c) (fa_key_of c) c.div_data (rnd1_of c) (rnd2_in c d) (mode_in c d) (payload_in c d) in
    framed-again cmd k i
    ∙ ap₂ final_command (ap length x ∙ length-sealed_data (key_length_of c) key (mode_in c d) (rnd2_in c d) (payload_in c d) hash) x
