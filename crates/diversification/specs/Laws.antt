-- The diversified key has as many bytes as the FAKey; its steps by their number; and both as they are made. Assumes nothing.
use Rattle.std.specs.Prelude.{◌≡◌, Bool, ℕ, suc, ◌+◌, ◌-◌, ◌*◌, ◌/◌, ◌<◌, ◌≤◌, eqb, replicate}
use Rattle.std.proofs.Math.Path.{refl, sym, ap}
use Rattle.std.proofs.Common.{◌∙◌, arith}
use Rattle.std.proofs.Math.Bool.{true, false, cond}
use mathlib.Core.List.{List, [], ◌∷◌, ◌++◌}
use borrow.Author.Tests.{lt-ltb, ltb-true, ltb-false}
use Rattle.std.proofs.Math.Dec.{ltb}
use Rattle.std.specs.Int.Bits.{bit_xor}
use Rattle.std.proofs.Math.ListN.{length, take, length-append}
use Rattle.std.proofs.Math.Seq.{take_at, take-append-add, length-take-le}
use Rattle.octets.specs.Bytes.{Bytes, Block}
use Rattle.octets.specs.Lists.{part, over}
use Rattle.octets.specs.ByteLists.{cons-bytes, append-bytes, zeros-bytes, part_bytes}
use Rattle.field.specs.Linear.{xor-byte}
use Rattle.octets.specs.Writes.{over-behind}
use Rattle.key_expansion.specs.KeyLength.{is_key_length, each-length, length_most}
use Rattle.key_expansion.specs.KeyExpansion.{round_keys}
use Rattle.key_expansion.specs.Filling.{length-round_keys}
use Rattle.aes.specs.Aes.{aes_under, cipher_by}
use Rattle.aes.specs.Rows.{rows-aes}
use Rattle.aes.specs.RoundTrip.{length-aes, aes-block}
use Rattle.work.specs.declared.Made.{Made}
use Rattle.work.specs.Steps.{Step, encipherment, counted, sum_from, mixed_all, bytes_of}
use Rattle.cbc.specs.Steps.{encipher_step}
use Rattle.plaid_types.specs.Keys.{wide}
use Rattle.diversification.specs.Diversification.{flipped, diversified_by, diversify_steps}

-- the FAKey's rows encipher under it
pub by_rows : (fa x : List ℕ) {w : List (List ℕ)} → w ≡ round_keys (length fa / 4) fa → cipher_by w x ≡ aes_under fa x
by_rows fa x e = ap (λ (r : List (List ℕ)). cipher_by r x) e ∙ rows-aes (length fa / 4) fa x

-- they are more than one
pub rows-two : (fa : List ℕ) {w : List (List ℕ)} → w ≡ round_keys (length fa / 4) fa → 1 < length w
rows-two fa e = omega (arith, ap length e, length-round_keys (length fa / 4) fa)

-- a key that is not over 16 bytes has 16
pub short : (n : ℕ) → is_key_length n ≡ true → n ≤ 16 → n ≡ 16
short n e = each-length (λ (k : ℕ). k ≤ 16 → k ≡ 16) n e (λ _. refl) (λ h. omega arith) (λ h. omega arith)

-- DivData with a bit flipped is a block
flipped-block : (div : List ℕ) → Block div → Block (flipped div)
unfolding flipped
flipped-block [] h = h
flipped-block (x ∷ xs) h = record { long = h.long; byte = cons-bytes (bit_xor x 0x80) xs (xor-byte (h.byte 0) (omega arith)) (λ i. h.byte (suc i)) }

-- the two ways
module _ (fa div : List ℕ) where
  first : List ℕ
  first = aes_under fa div

  second : List ℕ
  second = aes_under fa (flipped div)

  long-first : length first ≡ 16
  unfolding first
  long-first = length-aes (length fa / 4) fa div

  key-short : length fa ≡ 16 → diversified_by fa div ≡ first
  unfolding diversified_by first second part
  key-short e = ap (λ (n : ℕ). take n (first ++ cond (ltb 16 n) second [])) e ∙ take_at first [] 16 long-first

  key-long : 16 < length fa → diversified_by fa div ≡ first ++ take (length fa - 16) second
  unfolding diversified_by first second part
  key-long h =
      let e : length fa ≡ length first + (length fa - 16) = omega (arith, long-first) in
      ap (λ (t : Bool). take (length fa) (first ++ cond t second [])) (lt-ltb 16 (length fa) h)
      ∙ ap (λ (n : ℕ). take n (first ++ second)) e
      ∙ take-append-add first second (length fa - 16)

  pub made-short : length fa ≡ 16 → {k : List ℕ} → k ≡ over (replicate 32 0) 0 (aes_under fa div) → k ≡ wide (diversified_by fa div)
  unfolding wide first
  made-short e q = q ∙ ap (over (replicate 32 0) 0) (sym (key-short e))

  pub made-long : 16 < length fa → {k k' : List ℕ} → k ≡ over (replicate 32 0) 0 (aes_under fa div) → k' ≡ over k 16 (take (length fa - 16) (aes_under fa (flipped div))) → k' ≡ wide (diversified_by fa div)
  unfolding wide first second
  made-long h q r = over-behind (replicate 32 0) first (take (length fa - 16) second) long-first q r ∙ ap (over (replicate 32 0) 0) (sym (key-long h))

  -- the diversified key has L bytes, too
  pub length-diversified : is_key_length (length fa) ≡ true → length (diversified_by fa div) ≡ length fa
  unfolding second
  length-diversified e = by (ltb 16 (length fa)) refl
    where
      by : (t : Bool) → ltb 16 (length fa) ≡ t → length (diversified_by fa div) ≡ length fa
      by true et =
          let h : 16 < length fa = ltb-true 16 (length fa) et in
          ap length (key-long h) ∙ length-append first (take (length fa - 16) second)
          ∙ omega (arith, long-first, length_most (length fa) e, length-take-le (length fa - 16) second (omega (arith, length_most (length fa) e, length-aes (length fa / 4) fa (flipped div))))
      by false et = let h = short (length fa) e (ltb-false 16 (length fa) et) in ap length (key-short h) ∙ long-first ∙ sym h

  pub diversified-bytes : Bytes fa → Block div → Bytes (diversified_by fa div)
  unfolding diversified_by first second
  diversified-bytes hf hd = part_bytes (first ++ cond (ltb 16 (length fa)) second []) 0 (length fa) (append-bytes first (cond (ltb 16 (length fa)) second []) (aes-block (length fa / 4) fa hf div hd).byte (by (ltb 16 (length fa))))
    where
      by : (t : Bool) → Bytes (cond t (aes_under fa (flipped div)) [])
      by true = (aes-block (length fa / 4) fa hf (flipped div) (flipped-block div hd)).byte
      by false = zeros-bytes 0

-- one encipherment, or two for L over 16
abbrev pub encipherments : ℕ → ℕ
encipherments l = cond (ltb 16 l) 2 1

pub counted-diversify : (k : ℕ) (fa div : List ℕ) → counted k (diversify_steps fa div) ≡ encipherments (length fa) * cond (eqb encipherment k) 1 0
unfolding diversify_steps
counted-diversify k fa div = by (ltb 16 (length fa))
  where
    of : ℕ
    of = cond (eqb encipherment k) 1 0

    by : (t : Bool) → of + counted k (cond t (encipher_step fa (aes_under fa) (flipped div) ∷ []) []) ≡ cond t 2 1 * of
    by true = omega arith
    by false = omega arith

-- what is told of one encipherment, and of two: x and y are their blocks, and d and e the sums after them
abbrev pub told : List ℕ → List ℕ → ℕ → Made (List ℕ)
told fa div sum = record { value = wide (diversified_by fa div); count = counted encipherment (diversify_steps fa div); sum = sum_from sum (diversify_steps fa div) }

same : {k k' : List ℕ} {n n' s s' : ℕ} → k ≡ k' → n ≡ n' → s ≡ s' → ◌≡◌ {A = Made (List ℕ)} (record { value = k; count = n; sum = s }) (record { value = k'; count = n'; sum = s' })
same p q r = cc

module _ (fa div : List ℕ) (sum : ℕ) where
  abbrev step : List ℕ → Step
  step x = encipher_step fa (aes_under fa) x

  pub told-short : length fa ≡ 16 → {k : List ℕ} {d : ℕ} → k ≡ over (replicate 32 0) 0 (aes_under fa div) → d ≡ mixed_all sum (bytes_of (step div)) → ◌≡◌ {A = Made (List ℕ)} (record { value = k; count = 1; sum = d }) (told fa div sum)
  unfolding diversify_steps
  told-short e q r = same (made-short fa div e q) (ap (λ (n : ℕ). 1 + counted encipherment (cond (ltb 16 n) (step (flipped div) ∷ []) [])) (sym e)) (r ∙ ap (λ (n : ℕ). sum_from sum (step div ∷ cond (ltb 16 n) (step (flipped div) ∷ []) [])) (sym e))

  pub told-long : 16 < length fa → {k k' y : List ℕ} {d e : ℕ} → k ≡ over (replicate 32 0) 0 (aes_under fa div) → y ≡ aes_under fa (flipped div) → k' ≡ over k 16 (take (length fa - 16) y) →
      d ≡ mixed_all sum (bytes_of (step div)) → e ≡ mixed_all d (bytes_of (step (flipped div))) → ◌≡◌ {A = Made (List ℕ)} (record { value = k'; count = 2; sum = e }) (told fa div sum)
  unfolding diversify_steps
  told-long h {k} q ey q' r r' =
      let t = sym (lt-ltb 16 (length fa) h) in
      same (made-long fa div h q (q' ∙ ap (λ (x : List ℕ). over k 16 (take (length fa - 16) x)) ey)) (ap (λ (b : Bool). 1 + counted encipherment (cond b (step (flipped div) ∷ []) [])) t)
      (r' ∙ ap (λ (x : ℕ). mixed_all x (bytes_of (step (flipped div)))) r ∙ ap (λ (b : Bool). sum_from sum (step div ∷ cond b (step (flipped div) ∷ []) [])) t)
