-- CBC over the first whole blocks of a text, in a buffer's front: what stands behind them does not matter. Assumes nothing.
use mathlib.Core.Path.{◌≡◌, refl, sym, ap, ap₂, ◌∙◌}
use mathlib.Core.List.{List, ◌∷◌, ◌++◌}
use Prim.Native.Nat.{ℕ, zero, suc, ◌*◌, ◌/◌, ◌≤◌}
use native.Mathlib.Omega.{arith}
use lib.ListN.{length, take, drop, length-drop, take-append-drop}
use lib.Seq.{take-append-le, drop-append-le, take_at, length-take-le}
use Rattle.octets.specs.Lists.{part, over}
use Rattle.octets.specs.Writes.{take-over}
use Rattle.work.specs.Steps.{Step}
use Rattle.cbc.specs.Cbc.{◌⊕◌, encrypted, decrypted, encrypted_whole, decrypted_whole}
use Rattle.cbc.specs.Steps.{encipher_step, decipher_step, enciphered, deciphered}
use Rattle.cbc.specs.Laws.{encrypted-all, decrypted-all, encrypted-front, decrypted-front}
use Rattle.cbc.specs.Lengths.{length-encrypted, length-decrypted}
use Rattle.final_command.proofs.Buffers.{over-again}

module _ (key : List ℕ) (f : List ℕ → List ℕ) where
  deciphered-front : (n : ℕ) (s t : List ℕ) → 16 * n ≤ length s → deciphered key f n (s ++ t) ≡ deciphered key f n s
  unfolding deciphered part
  deciphered-front zero s t h = refl
  deciphered-front (suc n) s t h =
      ap₂ (λ (p r : List ℕ). decipher_step key f p ∷ deciphered key f n r) (take-append-le 16 s t (omega arith)) (drop-append-le 16 s t (omega arith))
      ∙ ap (λ (x : List Step). decipher_step key f (part s 0 16) ∷ x) (deciphered-front n (drop 16 s) t (omega (arith, length-drop 16 s)))

  enciphered-front : (n : ℕ) (c s t : List ℕ) → 16 * n ≤ length s → enciphered key f c n (s ++ t) ≡ enciphered key f c n s
  unfolding enciphered part
  enciphered-front zero c s t h = refl
  enciphered-front (suc n) c s t h =
      ap₂ (λ (p r : List ℕ). encipher_step key f (p ⊕ c) ∷ enciphered key f (f (p ⊕ c)) n r) (take-append-le 16 s t (omega arith)) (drop-append-le 16 s t (omega arith))
      ∙ ap (λ (x : List Step). encipher_step key f (part s 0 16 ⊕ c) ∷ x) (enciphered-front n (f (part s 0 16 ⊕ c)) (drop 16 s) t (omega (arith, length-drop 16 s)))

-- n bytes of s, which are k blocks
module _ (s a : List ℕ) (n k : ℕ) (e : n ≡ 16 * k) (h : n ≤ length s) (is : a ≡ take n s) where
  front_long : length a ≡ 16 * k
  front_long = ap length is ∙ length-take-le n s h ∙ e

  front-blocks : length a / 16 ≡ k
  front-blocks = omega (arith, front_long)

  split : a ++ drop n s ≡ s
  split = ap (λ (x : List ℕ). x ++ drop n s) is ∙ take-append-drop n s

  pub front-deciphered : (key : List ℕ) (inv : List ℕ → List ℕ) → deciphered key inv (length a / 16) a ≡ deciphered key inv k s
  front-deciphered key inv =
      ap (λ (m : ℕ). deciphered key inv m a) front-blocks
      ∙ sym (deciphered-front key inv k a (drop n s) (omega (arith, front_long)))
      ∙ ap (deciphered key inv k) split

  pub front-enciphered : (key : List ℕ) (ciph : List ℕ → List ℕ) (iv : List ℕ) → enciphered key ciph iv (length a / 16) a ≡ enciphered key ciph iv k s
  front-enciphered key ciph iv =
      ap (λ (m : ℕ). enciphered key ciph iv m a) front-blocks
      ∙ sym (enciphered-front key ciph k iv a (drop n s) (omega (arith, front_long)))
      ∙ ap (enciphered key ciph iv k) split

  pub front-decrypted : (inv : List ℕ → List ℕ) (iv : List ℕ) → decrypted_whole inv iv a ≡ decrypted inv iv k s
  front-decrypted inv iv =
      decrypted-all inv k iv a front_long
      ∙ sym (decrypted-front inv k iv a (drop n s) (omega (arith, front_long)))
      ∙ ap (decrypted inv iv k) split

  pub front-encrypted : (ciph : List ℕ → List ℕ) (iv : List ℕ) → encrypted_whole ciph iv a ≡ encrypted ciph iv k s
  front-encrypted ciph iv =
      encrypted-all ciph k iv a front_long
      ∙ sym (encrypted-front ciph k iv a (drop n s) (omega (arith, front_long)))
      ∙ ap (encrypted ciph iv k) split

  -- a buffer that starts with them, and has them deciphered in place
  pub buffer-front : (d t : List ℕ) → t ≡ over d 0 a → take n t ≡ a
  buffer-front d t q = ap (take n) q ∙ take-over d a n (front_long ∙ sym e)

  pub buffer-decrypted : (d t y : List ℕ) (inv : List ℕ → List ℕ) (iv : List ℕ) → t ≡ over d 0 a → y ≡ decrypted_whole inv iv (take n t) → y ++ drop n t ≡ over d 0 (decrypted inv iv k s)
  buffer-decrypted d t y inv iv q r =
      let v : y ≡ decrypted inv iv k s = r ∙ ap (decrypted_whole inv iv) (buffer-front d t q) ∙ front-decrypted inv iv in
      ap₂ (λ (x z : List ℕ). x ++ drop n z) v q
      ∙ over-again d a (decrypted inv iv k s) n (front_long ∙ sym e) (length-decrypted inv k iv s ∙ sym e)

  -- and what is sent of a buffer s whose front is enciphered in place
  pub buffer-encrypted : (y : List ℕ) (ciph : List ℕ → List ℕ) (iv : List ℕ) → ((x : List ℕ) → length (ciph x) ≡ 16) → y ≡ encrypted_whole ciph iv a → take n (y ++ drop n s) ≡ encrypted ciph iv k s
  buffer-encrypted y ciph iv l r =
      let v : y ≡ encrypted ciph iv k s = r ∙ front-encrypted ciph iv in
      take_at y (drop n s) n (ap length v ∙ length-encrypted ciph l k iv s ∙ sym e) ∙ v
