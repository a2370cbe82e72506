-- A turn of CBC in place: what is done of the text and what is left to do make the same whole, and so do the steps. Assumes nothing.
use Rattle.std.specs.Prelude.{⊤}
use mathlib.Core.Path.{◌≡◌, sym, ap, ap₂, ◌∙◌}
use mathlib.Core.List.{List, ◌++◌, append_assoc}
use Prim.Native.Nat.{ℕ, suc, ◌+◌, ◌-◌, ◌<◌, ◌≤◌}
use native.Mathlib.Omega.{arith}
use lib.ListN.{length, take, drop, length-append, length-drop, take-append-drop}
use lib.Seq.{take_at, drop_at, drop-drop, length-take-le}
use Rattle.octets.specs.Lists.{part, over}
use Rattle.work.specs.declared.Made.{Made}
use Rattle.work.specs.Steps.{bytes_of, mixed_all, sum_from}
use Rattle.aes.specs.Aes.{cipher_by, inv_cipher_by}
use Rattle.cbc.specs.declared.Way.{Way}
use Rattle.cbc.specs.declared.Way.TheVariants.{Encipher, Decipher}
use Rattle.cbc.specs.Ways.{kind_of, next, step_of, steps_of}
use Rattle.cbc.specs.Cbc.{◌⊕◌}
use Rattle.cbc.specs.Steps.{encipher_step, decipher_step, enciphered, deciphered, made}
use Rattle.cbc.specs.Chain.{whole, whole-more, whole-none}
use Rattle.cbc.specs.Laws.{counted-enciphered, counted-deciphered}

-- a block y written over the text, and what stands behind it
module _ (text y text' : List ℕ) (at at' : ℕ) (fits : at + 16 ≤ length text) (long : length y ≡ 16) (further : at' ≡ at + 16) (written : text' ≡ over text at y) where
  head-long : length (take at text ++ y) ≡ at'
  head-long = length-append (take at text) y ∙ omega (arith, length-take-le at text (omega arith))

  front : take at' text' ≡ take at text ++ y
  unfolding over
  front = ap (take at') written ∙ take_at (take at text ++ y) (drop (at + length y) text) at' head-long

  behind : drop at' text' ≡ drop 16 (drop at text)
  unfolding over
  behind =
      ap (drop at') written
      ∙ drop_at (take at text ++ y) (drop (at + length y) text) at' head-long
      ∙ ap (λ (n : ℕ). drop (at + n) text) long
      ∙ sym (drop-drop 16 at text)

  pub text-turn : (out next : List ℕ → List ℕ → List ℕ) (c c' all : List ℕ) → y ≡ out c (part text at 16) → c' ≡ next c (part text at 16) →
      take at text ++ whole out next c (drop at text) ≡ all → take at' text' ++ whole out next c' (drop at' text') ≡ all
  unfolding part
  text-turn out next c c' all p q e =
      ap₂ (λ (x r : List ℕ). x ++ whole out next c' r) front behind
      ∙ append_assoc (take at text) y (whole out next c' (drop 16 (drop at text)))
      ∙ ap (λ (x : List ℕ). take at text ++ x)
      (ap₂ (λ (x z : List ℕ). x ++ whole out next z (drop 16 (drop at text))) p q
      ∙ sym (whole-more out next c (drop at text) (omega (arith, length-drop at text))))
      ∙ e

  module _ (key : List ℕ) (f : List ℕ → List ℕ) (n j j' sum sum' all : ℕ) (h : j < n) (one : j' ≡ j + 1) where
    enciphered-turn : (c c' x : List ℕ) → x ≡ part text at 16 ⊕ c → c' ≡ f x → sum' ≡ mixed_all sum (bytes_of (encipher_step key f x)) →
        sum_from sum (enciphered key f c (n - j) (drop at text)) ≡ all → sum_from sum' (enciphered key f c' (n - j') (drop at' text')) ≡ all
    unfolding enciphered part
    enciphered-turn c c' x p q r e =
        let m : n - j ≡ suc (n - j') = omega arith in
        rw (behind, r, q, p) (rw m at e)

    deciphered-turn : (x : List ℕ) → x ≡ part text at 16 → sum' ≡ mixed_all sum (bytes_of (decipher_step key f x)) →
        sum_from sum (deciphered key f (n - j) (drop at text)) ≡ all → sum_from sum' (deciphered key f (n - j') (drop at' text')) ≡ all
    unfolding deciphered part
    deciphered-turn x p r e =
        let m : n - j ≡ suc (n - j') = omega arith in
        rw (behind, r, p) (rw m at e)

-- after the last turn
pub text-done : (out next : List ℕ → List ℕ → List ℕ) (c text all : List ℕ) (at : ℕ) → length text < at + 16 →
    take at text ++ whole out next c (drop at text) ≡ all → text ≡ all
text-done out next c text all at h e =
    sym (take-append-drop at text)
    ∙ ap (λ (x : List ℕ). take at text ++ x) (sym (whole-none out next c (drop at text) (omega (arith, length-drop at text))))
    ∙ e

told : {n m s t : ℕ} → n ≡ m → s ≡ t → ◌≡◌ {A = Made ⊤} (record { value = tt; count = n; sum = s }) (record { value = tt; count = m; sum = t })
told p q = rw (p, q)

-- a turn of either way
module _ (text y text' : List ℕ) (at at' : ℕ) (fits : at + 16 ≤ length text) (long : length y ≡ 16) (further : at' ≡ at + 16) (written : text' ≡ over text at y)
    (key : List ℕ) (w : List (List ℕ)) (n j j' sum sum' all : ℕ) (h : j < n) (one : j' ≡ j + 1) where
  pub steps-turn : (v : Way) (c c' b : List ℕ) → b ≡ part text at 16 → c' ≡ next v w c b → sum' ≡ mixed_all sum (bytes_of (step_of v key w c b)) →
      sum_from sum (steps_of v key w c (n - j) (drop at text)) ≡ all → sum_from sum' (steps_of v key w c' (n - j') (drop at' text')) ≡ all
  steps-turn (Encipher t) c c' b p q r e =
      enciphered-turn text y text' at at' fits long further written key (cipher_by w) n j j' sum sum' all h one c c' (b ⊕ c) (ap (λ (x : List ℕ). x ⊕ c) p) q r e
  steps-turn (Decipher t) c c' b p q r e =
      deciphered-turn text y text' at at' fits long further written key (inv_cipher_by w) n j j' sum sum' all h one b p r e

-- all n steps made: how many they are, and the work sum
module _ (key : List ℕ) (w : List (List ℕ)) (text text₀ : List ℕ) (count n j sum sum₀ : ℕ) (all_made : j ≡ n) (all_told : count ≡ n) where
  none_left : n - j ≡ 0
  none_left = omega arith

  pub steps-done : (v : Way) (c c₀ : List ℕ) → sum_from sum (steps_of v key w c (n - j) text) ≡ sum_from sum₀ (steps_of v key w c₀ n text₀) →
      ◌≡◌ {A = Made ⊤} (record { value = tt; count = count; sum = sum }) (made (kind_of v) sum₀ (steps_of v key w c₀ n text₀))
  unfolding enciphered deciphered
  steps-done (Encipher t) c c₀ e = told (all_told ∙ sym (counted-enciphered key (cipher_by w) n c₀ text₀)) (rw none_left at e)
  steps-done (Decipher t) c c₀ e = told (all_told ∙ sym (counted-deciphered key (inv_cipher_by w) n text₀)) (rw none_left at e)
