-- The parts of an accepted initial command's block: 00 02, the pad bytes, 00, the KeySetID, DivData, RND1 and RND1 again. Assumes nothing.
use Rattle.std.specs.Prelude.{◌≡◌, ℕ, ◌+◌, ◌-◌, ◌*◌, ◌/◌, ◌%◌, ◌≤◌, length, get_or}
use Rattle.std.proofs.Math.Path.{refl, ap}
use Rattle.std.proofs.Common.{◌∙◌, arith, length-append, get_or-append-add}
use mathlib.Core.List.{List, [], ◌∷◌, ◌++◌, append_assoc}
use Rattle.std.proofs.lemmas.List.{get_or_at}
use Rattle.octets.specs.Lists.{part}
use Rattle.frame.specs.Declines.{pad_bytes}
use Rattle.frame.specs.Laws.{length-pads}
use Rattle.plaid_types.specs.Keys.{str1_length}
use Rattle.plaid_types.specs.KeyLaws.{str1-most}
use Rattle.plaid_types.specs.declared.KeySetId.{KeySetId}
use Rattle.initial.specs.Initial.{str1, block_of}
use Rattle.initial.proofs.Laws.{length-str1, length-block}
use Rattle.session_initial.specs.Parts.{part-after, part-last, part-behind}

-- "The output block is 00 02, the pad bytes, 00, those 50 bytes." T-04: "STR1 is then 50, 66 or 82 bytes": where they stand in the 256
abbrev pub str1_at : ℕ → ℕ
str1_at l = 256 - str1_length l

-- where each part stands in the block b of a card with keys of l bytes
pub record BlockParts (l : ℕ) (b pad : List ℕ) (k : KeySetId) (div rnd1 : List ℕ) : Type 0 where
  pub size : length b ≡ 256
  pub zero-first : get_or b 0 0 ≡ 0
  pub type-two : get_or b 1 0 ≡ 2
  pub pads : part b 2 (253 - str1_length l) ≡ pad
  pub zero-behind : get_or b (str1_at l - 1) 0 ≡ 0
  pub id : get_or b (str1_at l) 0 * 256 + get_or b (str1_at l + 1) 0 ≡ k.0
  pub div-data : part b (str1_at l + 2) 16 ≡ div
  pub rnd1-once : part b (str1_at l + 18) l ≡ rnd1
  pub rnd1-again : part b (str1_at l + (18 + l)) l ≡ rnd1

module _ (l : ℕ) (fresh : List ℕ) (k : KeySetId) (div rnd1 : List ℕ) (h : l ≤ 32) (lf : length fresh ≡ 253) (ld : length div ≡ 16) (lr : length rnd1 ≡ l) where
  abbrev pad : List ℕ
  pad = pad_bytes l fresh

  abbrev front : List ℕ
  front = 0 ∷ 2 ∷ (pad ++ (0 ∷ []))

  abbrev text : List ℕ
  text = k.0 / 256 ∷ k.0 % 256 ∷ (div ++ (rnd1 ++ rnd1))

  length_front : length front ≡ str1_at l
  length_front = omega (arith, length-append pad (0 ∷ []), length-pads l fresh lf, str1-most l h)

  in-text : (n j : ℕ) → n ≡ str1_at l + j → get_or (front ++ text) n 0 ≡ get_or text j 0
  in-text n j e =
      let q : n ≡ length front + j = omega (arith, length_front) in
      ap (λ (i : ℕ). get_or (front ++ text) i 0) q ∙ get_or-append-add front text j 0

  of-text : (j m : ℕ) → part (front ++ text) (str1_at l + j) m ≡ part text j m
  of-text j m = part-behind front text (str1_at l + j) j m (omega (arith, length_front))

  -- behind the KeySetID
  of-rest : (j i m : ℕ) → j ≡ 2 + i → part text j m ≡ part (div ++ (rnd1 ++ rnd1)) i m
  of-rest j i m e = part-behind (k.0 / 256 ∷ k.0 % 256 ∷ []) (div ++ (rnd1 ++ rnd1)) j i m e

  behind-two : front ++ text ≡ 0 ∷ 2 ∷ (pad ++ (0 ∷ text))
  behind-two = ap (λ (x : List ℕ). 0 ∷ 2 ∷ x) (append_assoc pad (0 ∷ []) text)

  zero-at : get_or (front ++ text) (str1_at l - 1) 0 ≡ 0
  zero-at =
      ap (λ (x : List ℕ). get_or x (str1_at l - 1) 0) behind-two
      ∙ get_or_at (0 ∷ 2 ∷ pad) 0 text 0 (str1_at l - 1) (omega (arith, length-pads l fresh lf, str1-most l h))

  -- the block of an accepted initial command has these parts
  pub block-parts : BlockParts l (block_of l fresh (str1 k div rnd1)) (pad_bytes l fresh) k div rnd1
  unfolding block_of str1
  block-parts =
      record {
        size = length-block l fresh (str1 k div rnd1) h lf (length-str1 l k div rnd1 ld lr);
        zero-first = refl;
        type-two = refl;
        pads = ap (λ (x : List ℕ). part x 2 (253 - str1_length l)) behind-two ∙ part-after (0 ∷ 2 ∷ []) pad (0 ∷ text) 2 (253 - str1_length l) refl (length-pads l fresh lf);
        zero-behind = zero-at;
        id = omega (arith, in-text (str1_at l) 0 (omega arith), in-text (str1_at l + 1) 1 (omega arith));
        div-data = of-text 2 16 ∙ part-after (k.0 / 256 ∷ k.0 % 256 ∷ []) div (rnd1 ++ rnd1) 2 16 refl ld;
        rnd1-once = of-text 18 l ∙ of-rest 18 16 l (omega arith) ∙ part-after div rnd1 rnd1 16 l ld lr;
        rnd1-again =
            of-text (18 + l) l
            ∙ of-rest (18 + l) (16 + l) l (omega arith)
            ∙ part-behind div (rnd1 ++ rnd1) (16 + l) l l (omega arith)
            ∙ part-last rnd1 rnd1 l l lr lr;
      }
