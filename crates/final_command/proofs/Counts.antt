-- The counts of each kind of step in the parts of a final command, and counts and sums of lists one behind the other. Assumes nothing.
use mathlib.Core.Path.{◌≡◌, refl, sym, ap, ◌∙◌}
use mathlib.Core.Bool.{Bool, true, false, cond}
use mathlib.Core.List.{List, [], ◌∷◌, ◌++◌}
use Prim.Native.Nat.{ℕ, ◌+◌, ◌*◌, ◌≤◌}
use native.Mathlib.Omega.{arith}
use lib.Dec.{eqb, ltb}
use lib.ListN.{length}
use borrow.Author.Tests.{ltb-true}
use Rattle.aes.specs.Aes.{aes_under, inv_aes_under}
use Rattle.work.specs.Steps.{Step, comparison, decipherment, encipherment, expansion, hash_block, counted, sum_from}
use Rattle.work.specs.Laws.{sum_from-append, counted-append}
use Rattle.cbc.specs.Steps.{enciphered, deciphered}
use Rattle.cbc.specs.Laws.{counted-enciphered, other-enciphered, other-deciphered}
use Rattle.cbc.specs.Cbc.{zeros}
use Rattle.steps.specs.Made.{expansion_step, hash_steps}
use Rattle.steps.specs.Laws.{counted-hash}
use Rattle.diversification.specs.Diversification.{diversify_steps}
use Rattle.diversification.specs.Laws.{encipherments, counted-diversify}
use Rattle.plaid_types.specs.declared.Card.{Card}
use Rattle.final_command.specs.Final.{fa_key_of, diversified, blocks_in, hashed_of, size_of}
use Rattle.final_command.specs.Parts.{div_steps, text_steps, reply_steps}

pub sum-four : (s : ℕ) (a b c d : List Step) → sum_from s (a ++ b ++ c ++ d) ≡ sum_from (sum_from (sum_from (sum_from s a) b) c) d
sum-four s a b c d =
    sum_from-append s (a ++ b ++ c) d
    ∙ ap (λ (x : ℕ). sum_from x d) (sum_from-append s (a ++ b) c ∙ ap (λ (x : ℕ). sum_from x c) (sum_from-append s a b))

count-four : (k : ℕ) (a b c d : List Step) → counted k (a ++ b ++ c ++ d) ≡ counted k a + counted k b + counted k c + counted k d
count-four k a b c d =
    counted-append k (a ++ b ++ c) d
    ∙ ap (λ (x : ℕ). x + counted k d) (counted-append k (a ++ b) c ∙ ap (λ (x : ℕ). x + counted k c) (counted-append k a b))

pub div-expansions : (fa div : List ℕ) → counted expansion (div_steps fa div) ≡ 1
div-expansions fa div = omega (arith, counted-diversify expansion fa div)

-- the steps up to the hash
module _ (c : Card) (d : List ℕ) where
  text-count : (k : ℕ) →
      counted k (text_steps c d) ≡ counted k (div_steps (fa_key_of c) c.div_data) + counted k (expansion_step (diversified c) ∷ [])
      + counted k (deciphered (diversified c) (inv_aes_under (diversified c)) (blocks_in d) d)
      + counted k (hash_steps (hashed_of c d))
  unfolding text_steps
  text-count k =
      count-four k (div_steps (fa_key_of c) c.div_data) (expansion_step (diversified c) ∷ []) (deciphered (diversified c) (inv_aes_under (diversified c)) (blocks_in d) d) (hash_steps (hashed_of c d))

  divs : (k : ℕ) → counted k (diversify_steps (fa_key_of c) c.div_data) ≡ encipherments (length (fa_key_of c)) * cond (eqb encipherment k) 1 0
  divs k = counted-diversify k (fa_key_of c) c.div_data

  no-decipherments : (k : ℕ) → (decipherment ≡ k → ⊥) → counted k (deciphered (diversified c) (inv_aes_under (diversified c)) (blocks_in d) d) ≡ 0
  no-decipherments k h = other-deciphered (diversified c) (inv_aes_under (diversified c)) k (blocks_in d) d h

  pub text-comparisons : counted comparison (text_steps c d) ≡ 0
  text-comparisons = text-count comparison ∙ omega (arith, divs comparison, no-decipherments comparison (λ e. omega arith), counted-hash comparison (hashed_of c d))

  pub text-decipherments : counted decipherment (deciphered (diversified c) (inv_aes_under (diversified c)) (blocks_in d) d) ≡ counted decipherment (text_steps c d)
  text-decipherments = sym (text-count decipherment ∙ omega (arith, divs decipherment, counted-hash decipherment (hashed_of c d)))

  pub text-encipherments : counted encipherment (text_steps c d) ≡ encipherments (length (fa_key_of c))
  text-encipherments = text-count encipherment ∙ omega (arith, divs encipherment, no-decipherments encipherment (λ e. omega arith), counted-hash encipherment (hashed_of c d))

  pub text-expansions : counted expansion (text_steps c d) ≡ 2
  text-expansions = text-count expansion ∙ omega (arith, divs expansion, no-decipherments expansion (λ e. omega arith), counted-hash expansion (hashed_of c d))

  pub text-hash-blocks : counted hash_block (hash_steps (hashed_of c d)) ≡ counted hash_block (text_steps c d)
  text-hash-blocks = sym (text-count hash_block ∙ omega (arith, divs hash_block, no-decipherments hash_block (λ e. omega arith)))

-- the steps behind the verdict
module _ (key : List ℕ) (n : ℕ) (b : List ℕ) where
  reply-count : (k : ℕ) → counted k (reply_steps key n b) ≡ counted k (expansion_step key ∷ []) + counted k (enciphered key (aes_under key) zeros n b)
  unfolding reply_steps
  reply-count k = counted-append k (expansion_step key ∷ []) (enciphered key (aes_under key) zeros n b)

  no-encipherments : (k : ℕ) → (encipherment ≡ k → ⊥) → counted k (enciphered key (aes_under key) zeros n b) ≡ 0
  no-encipherments k h = other-enciphered key (aes_under key) k n zeros b h

  pub reply-comparisons : counted comparison (reply_steps key n b) ≡ 0
  reply-comparisons = reply-count comparison ∙ omega (arith, no-encipherments comparison (λ e. omega arith))

  pub reply-decipherments : counted decipherment (reply_steps key n b) ≡ 0
  reply-decipherments = reply-count decipherment ∙ omega (arith, no-encipherments decipherment (λ e. omega arith))

  pub reply-encipherments : counted encipherment (reply_steps key n b) ≡ n
  reply-encipherments = reply-count encipherment ∙ omega (arith, counted-enciphered key (aes_under key) n zeros b)

  pub reply-expansions : counted expansion (reply_steps key n b) ≡ 1
  reply-expansions = reply-count expansion ∙ omega (arith, no-encipherments expansion (λ e. omega arith))

  pub reply-hash-blocks : counted hash_block (reply_steps key n b) ≡ 0
  reply-hash-blocks = reply-count hash_block ∙ omega (arith, no-encipherments hash_block (λ e. omega arith))

encipherments-by : (t : Bool) → cond t 2 1 ≤ 2
encipherments-by true = omega arith
encipherments-by false = omega arith

pub encipherments-most : (l : ℕ) → encipherments l ≤ 2
encipherments-most l = encipherments-by (ltb 16 l)

size-by : (n : ℕ) (t : Bool) → ltb n 6 ≡ t → cond t n 6 ≤ 6
size-by n true e = omega (arith, ltb-true n 6 e)
size-by n false e = omega arith

pub size-most : (c : Card) → size_of c ≤ 6
unfolding size_of
size-most c = size-by c.reply_size (ltb c.reply_size 6) refl
