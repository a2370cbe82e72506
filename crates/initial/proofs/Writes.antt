-- Writes one behind the other, as one: those of the head and of STR1. Assumes nothing.
use mathlib.Core.Path.{◌≡◌, refl, ap, ◌∙◌}
use mathlib.Core.List.{List, [], ◌∷◌, ◌++◌, append_assoc}
use Prim.Native.Nat.{ℕ, ◌+◌, ◌-◌, ◌/◌, ◌%◌, ◌<◌, ◌≤◌}
use native.Mathlib.Omega.{arith}
use Rattle.std.specs.Int.{to_be_bytes, w16}
use lib.ListN.{length, take, drop, length-append, length-drop}
use lib.Seq.{take_all}
use Rattle.octets.specs.Lists.{over}
use Rattle.octets.specs.Writes.{over-next}
use Rattle.frame.specs.Declines.{pad_bytes}
use Rattle.frame.specs.Laws.{length-pads}
use Rattle.plaid_types.specs.Keys.{str1_length}
use Rattle.plaid_types.specs.KeyLaws.{str1-most}
use Rattle.plaid_types.specs.declared.KeySetId.{KeySetId}
use Rattle.initial.specs.Initial.{str1}
use Rattle.initial.specs.Told.{head_of}

-- the two bytes of a u16
pub two-bytes : (n : ℕ) → n < 65536 → to_be_bytes w16 n ≡ n / 256 ∷ n % 256 ∷ []
two-bytes n h = ap (λ (b : ℕ). b ∷ n % 256 ∷ []) (omega arith)

-- all from place n on
pub take_drop_all : (n : ℕ) (l : List ℕ) → take (length l - n) (drop n l) ≡ drop n l
take_drop_all n l = take_all (length l - n) (drop n l) (omega (arith, length-drop n l))

pub head-writes :
    (l : ℕ) (fresh d : List ℕ) {at : ℕ} {e₁ e₂ e₃ : List ℕ}
    → l ≤ 32
    → length fresh ≡ 253
    → at ≡ 256 - str1_length l
    → e₁ ≡ over d 0 (0 ∷ 2 ∷ [])
    → e₂ ≡ over e₁ 2 (pad_bytes l fresh)
    → e₃ ≡ over e₂ (at - 1) (0 ∷ [])
    → e₃ ≡ over d 0 (head_of l fresh)
head-writes l fresh d h lf a q₁ q₂ q₃ =
    over-next d (0 ∷ 2 ∷ pad_bytes l fresh) (0 ∷ []) 0 (omega (arith, length-pads l fresh lf, str1-most l h)) (omega arith) (over-next d (0 ∷ 2 ∷ []) (pad_bytes l fresh) 0 refl (omega arith) q₁ q₂) q₃

pub str1-writes :
    (id : KeySetId) (div rnd1 d : List ℕ) (at : ℕ) {e₁ e₂ e₃ e₄ : List ℕ}
    → length div ≡ 16
    → at ≤ length d
    → e₁ ≡ over d at (id.0 / 256 ∷ id.0 % 256 ∷ [])
    → e₂ ≡ over e₁ (at + 2) div
    → e₃ ≡ over e₂ (at + 18) rnd1
    → e₄ ≡ over e₃ (at + 18 + length rnd1) rnd1
    → e₄ ≡ over d at (str1 id div rnd1)
unfolding str1
str1-writes id div rnd1 d at ld h q₁ q₂ q₃ q₄ =
    let number : List ℕ = id.0 / 256 ∷ id.0 % 256 ∷ [] in
    let w₂ = over-next d number div at refl h q₁ q₂ in
    let w₃ = over-next d (number ++ div) rnd1 at (omega arith) h w₂ q₃ in
    over-next d (number ++ div ++ rnd1) rnd1 at (omega (arith, length-append div rnd1)) h w₃ q₄
    ∙ ap (over d at) (append_assoc (number ++ div) rnd1 rnd1 ∙ append_assoc number div (rnd1 ++ rnd1))
