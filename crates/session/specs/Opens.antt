-- The reverse of `block-opens`: a block that opens is the block of an accepted initial command, byte for byte, for the entry's KeySetID and the
-- DivData and RND1 that Open hands back. Assumes nothing.
use Rattle.std.specs.Prelude.{◌≡◌, true, length, get_or}
use Rattle.std.proofs.Common.{sym, ◌∙◌, arith, eqb-true, take_all}
use Rattle.std.proofs.Math.Path.{ap, ap₂}
use mathlib.Core.List.{List, [], ◌∷◌, ◌++◌, append_assoc}
use Prim.Native.Nat.{ℕ, ◌+◌, ◌-◌, ◌/◌, ◌%◌, ◌≤◌}
use Rattle.std.proofs.Math.ListN.{length-append}
use Rattle.std.proofs.Math.Seq.{take_at, drop_at}
use Rattle.octets.specs.Bytes.{Bytes}
use Rattle.octets.specs.Lists.{part, length_part}
use Rattle.octets.specs.ByteLists.{part_bytes}
use Rattle.octets.specs.Same.{split-and, same_true}
use Rattle.frame.specs.Declines.{pad_bytes, no_zero}
use Rattle.plaid_types.specs.Keys.{str1_length}
use Rattle.plaid_types.specs.KeyLaws.{str1-most}
use Rattle.plaid_types.specs.declared.KeySetId.{KeySetId}
use Rattle.initial.specs.Initial.{str1, block_of}
use Rattle.reader_open.specs.Open.{formed, text_of, id_of, div_of, rnd1_of, rnd1_copy, agrees, opens_as}
use Rattle.reader_open.specs.Laws.{Encrypted, opens-form}
use Rattle.session_final.specs.Converse.{front-parts}

-- a list by its parts: two elements, and then n, m and k
all-parts : (l : List ℕ) (n m k : ℕ) → length l ≡ 2 + (n + (m + k)) →
    l ≡ get_or l 0 0 ∷ get_or l 1 0 ∷ (part l 2 n ++ (part l (2 + n) m ++ part l (2 + n + m) k))
all-parts l n m k h = sym (take_all (2 + (n + (m + k))) l (omega arith)) ∙ front-parts l n m k (omega arith)

-- a text of as many bytes as STR1 "whose KeySetID is that entry's and whose RND1 copies agree" is STR1
text-str1 : (l : ℕ) (id : KeySetId) (t : List ℕ) → length t ≡ str1_length l → Bytes t → agrees l id t ≡ true → t ≡ str1 id (div_of t) (rnd1_of l t)
unfolding agrees str1 str1_length
text-str1 l id t lt b e =
    let a = split-and _ _ e in
    let i : (id_of t).0 ≡ id.0 = eqb-true (id_of t).0 id.0 a.0 in
    let c : rnd1_of l t ≡ rnd1_copy l t = same_true (rnd1_of l t) (rnd1_copy l t) a.1 in
    let high : get_or t 0 0 ≡ id.0 / 256 = omega (arith, b 1) in
    let low : get_or t 1 0 ≡ id.0 % 256 = omega (arith, b 1) in
    all-parts t 16 l l (omega arith)
    ∙ ap₂ (λ (x y : ℕ). x ∷ y ∷ (div_of t ++ (rnd1_of l t ++ rnd1_copy l t))) high low
    ∙ ap (λ (r : List ℕ). id.0 / 256 ∷ id.0 % 256 ∷ (div_of t ++ (rnd1_of l t ++ r))) (sym c)

-- fresh bytes that give a card this block: RND1, the bytes f of F that an accepted command does not use, and the block's pad bytes
abbrev pub fresh_of : ℕ → List ℕ → List ℕ → List ℕ
fresh_of l b f = rnd1_of l (text_of l b) ++ (f ++ part b 2 (253 - str1_length l))

-- with these a card that accepts the KeySetID, and has this DivData, answers with the block
pub record CardsBlock (l : ℕ) (id : KeySetId) (b f : List ℕ) : Type 0 where
  -- neither "8 fresh bytes not 253" nor "9 a zero pad byte"
  pub fresh-long : length (fresh_of l b f) ≡ 253
  pub pads-nonzero : no_zero (pad_bytes l (fresh_of l b f)) ≡ true
  -- "RND1 is the first 16 of F". T-04: "RND1, RND2 and KeysHash have L bytes each"
  pub rnd1-first : part (fresh_of l b f) 0 l ≡ rnd1_of l (text_of l b)
  pub rnd1-long : length (rnd1_of l (text_of l b)) ≡ l
  -- "DivData (16 bytes)"
  pub div-long : length (div_of (text_of l b)) ≡ 16
  -- "The output block is 00 02, the pad bytes, 00, those 50 bytes", and these are STR1
  pub is_block : b ≡ block_of l (fresh_of l b f) (str1 id (div_of (text_of l b)) (rnd1_of l (text_of l b)))

module _ (l : ℕ) (h : l ≤ 32) (id : KeySetId) (b f : List ℕ) (lb : length b ≡ 256) (hb : Bytes b) (lf : length f ≡ str1_length l - l) (e : opens_as l id b ≡ true) where
  abbrev text : List ℕ
  text = text_of l b

  abbrev pads : List ℕ
  pads = part b 2 (253 - str1_length l)

  form : Encrypted l b pads text
  form = opens-form l h id b lb e

  text-is : text ≡ str1 id (div_of text) (rnd1_of l text)
  unfolding opens_as
  text-is = text-str1 l id text form.m-long (part_bytes b (256 - str1_length l) (str1_length l) hb) (split-and (formed l b) (agrees l id text) e).1

  length-rnd1 : length (rnd1_of l text) ≡ l
  unfolding str1_length
  length-rnd1 = length_part text 18 l (omega (arith, form.m-long))

  length-first : length (rnd1_of l text ++ f) ≡ str1_length l
  unfolding str1_length
  length-first = omega (arith, length-append (rnd1_of l text) f, length-rnd1)

  pads-are : pad_bytes l (fresh_of l b f) ≡ pads
  unfolding pad_bytes
  pads-are = ap (pad_bytes l) (sym (append_assoc (rnd1_of l text) f pads)) ∙ drop_at (rnd1_of l text ++ f) pads (str1_length l) length-first

  first-is : part (fresh_of l b f) 0 l ≡ rnd1_of l text
  unfolding part
  first-is = take_at (rnd1_of l text) (f ++ pads) l length-rnd1

  block-is : b ≡ block_of l (fresh_of l b f) (str1 id (div_of text) (rnd1_of l text))
  unfolding block_of
  block-is =
      let t : List ℕ = str1 id (div_of text) (rnd1_of l text) in
      form.is
      ∙ ap₂ (λ (p m : List ℕ). 0 ∷ 2 ∷ (p ++ (0 ∷ m))) (sym pads-are) text-is
      ∙ ap (λ (x : List ℕ). 0 ∷ 2 ∷ x) (sym (append_assoc (pad_bytes l (fresh_of l b f)) (0 ∷ []) t))

  fresh-is : length (fresh_of l b f) ≡ 253
  fresh-is =
      ap length (sym (append_assoc (rnd1_of l text) f pads))
      ∙ length-append (rnd1_of l text ++ f) pads
      ∙ omega (arith, length-first, form.ps-long, str1-most l h)

  div_is : length (div_of text) ≡ 16
  unfolding str1_length
  div_is = length_part text 2 16 (omega (arith, form.m-long))

  pub opens-block : CardsBlock l id b f
  opens-block =
      record {
        fresh-long = fresh-is;
        pads-nonzero = ap no_zero pads-are ∙ form.nonzero;
        rnd1-first = first-is;
        rnd1-long = length-rnd1;
        div-long = div_is;
        is_block = block-is;
      }
