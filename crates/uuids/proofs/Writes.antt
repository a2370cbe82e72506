-- The writes of five groups, one behind the other, as one. Assumes nothing.
use mathlib.Core.Path.{◌≡◌, ap, ◌∙◌}
use mathlib.Core.List.{List, ◌++◌}
use Prim.Native.Nat.{ℕ, ◌+◌}
use lib.ListN.{length, length-append}
use Rattle.octets.specs.Lists.{over}
use Rattle.octets.specs.Writes.{over-behind}

-- five groups, of which f tells the first one's bytes and k the others'
behind : (s t : List ℕ) {m n : ℕ} → length s ≡ m → m + length t ≡ n → length (s ++ t) ≡ n
behind s t p q = length-append s t ∙ ap (λ (k : ℕ). k + length t) p ∙ q

told : (f : List ℕ → List ℕ) (d : List ℕ) (at : ℕ) {e g : List ℕ} (g' : List ℕ) → e ≡ over d at (f g) → g ≡ g' → e ≡ over d at (f g')
told f d at g' q p = q ∙ ap (λ (l : List ℕ). over d at (f l)) p

pub five : (f k : List ℕ → List ℕ) (d g₁ g₂ g₃ g₄ g₅ : List ℕ) (n₁ n₂ n₃ n₄ : ℕ) {a₁ a₂ a₃ a₄ a₅ e₁ e₂ e₃ e₄ e₅ : List ℕ} →
    length (f g₁) ≡ n₁ → n₁ + length (k g₂) ≡ n₂ → n₂ + length (k g₃) ≡ n₃ → n₃ + length (k g₄) ≡ n₄ → a₁ ≡ g₁ → a₂ ≡ g₂ → a₃ ≡ g₃ → a₄ ≡ g₄ → a₅ ≡ g₅ →
    e₁ ≡ over d 0 (f a₁) → e₂ ≡ over e₁ n₁ (k a₂) → e₃ ≡ over e₂ n₂ (k a₃) → e₄ ≡ over e₃ n₃ (k a₄) → e₅ ≡ over e₄ n₄ (k a₅) →
    e₅ ≡ over d 0 (f g₁ ++ k g₂ ++ k g₃ ++ k g₄ ++ k g₅)
five f k d g₁ g₂ g₃ g₄ g₅ n₁ n₂ n₃ n₄ {a₁} {a₂} {a₃} {a₄} {a₅} {e₁} {e₂} {e₃} {e₄} {e₅} l₁ l₂ l₃ l₄ p₁ p₂ p₃ p₄ p₅ q₁ q₂ q₃ q₄ q₅ =
    let s₂ : List ℕ = f g₁ ++ k g₂ in
    let m₂ = behind (f g₁) (k g₂) l₁ l₂ in
    let m₃ = behind s₂ (k g₃) m₂ l₃ in
    let m₄ = behind (s₂ ++ k g₃) (k g₄) m₃ l₄ in
    let r₂ = over-behind d (f g₁) (k g₂) l₁ (told f d 0 g₁ q₁ p₁) (told k e₁ n₁ g₂ q₂ p₂) in
    let r₃ = over-behind d s₂ (k g₃) m₂ r₂ (told k e₂ n₂ g₃ q₃ p₃) in
    let r₄ = over-behind d (s₂ ++ k g₃) (k g₄) m₃ r₃ (told k e₃ n₃ g₄ q₄ p₄) in
    over-behind d (s₂ ++ k g₃ ++ k g₄) (k g₅) m₄ r₄ (told k e₄ n₄ g₅ q₅ p₅)
