-- A loop that fills a list in place, one store a turn. Assumes nothing.
use Rattle.std.specs.Prelude.{◌≡◌, refl, List, ℕ, ◌+◌, ◌<◌, ◌≤◌, length, get_or, set}
use Rattle.std.proofs.Common.{◌∙◌, ⊎_elim, eq-or-lt_of_le, arith, length-set, get_or-set_same, get_or-set_other}
use Rattle.octets.specs.Lists.{table, tabled}

-- t is t₀ with its first i elements replaced by f's
pub record Filled (f : ℕ → ℕ) (t₀ t : List ℕ) (i : ℕ) : Type 0 where
  pub long : length t ≡ length t₀
  pub done : (k : ℕ) → k < i → get_or t k 0 ≡ f k
  pub rest : (k : ℕ) → i ≤ k → get_or t k 0 ≡ get_or t₀ k 0

pub filled_none : (f : ℕ → ℕ) (t : List ℕ) → Filled f t t 0
filled_none f t = record { long = refl; done = λ k h. omega arith; rest = λ k h. refl }

pub filled_more : {f : ℕ → ℕ} {t₀ t : List ℕ} {i v : ℕ} → Filled f t₀ t i → i < length t₀ → v ≡ f i → Filled f t₀ (set t i v) (i + 1)
filled_more {f} {t₀} {t} {i} {v} q h e =
    record {
      long = length-set t i v ∙ q.long;
      done =
          λ k l.
          ⊎_elim (λ (p : k ≡ i). rw p (get_or-set_same t i v 0 (omega (arith, q.long)) ∙ e))
          (λ (p : k < i). get_or-set_other t i k v 0 (λ z. omega arith) ∙ q.done k p)
          (eq-or-lt_of_le (omega arith));
      rest = λ k l. get_or-set_other t i k v 0 (λ z. omega arith) ∙ q.rest k (omega arith);
    }

-- a list that is filled to its end
pub filled-all : {f : ℕ → ℕ} {t₀ t : List ℕ} {i : ℕ} (n : ℕ) → Filled f t₀ t i → length t₀ ≡ n → n ≤ i → t ≡ table f n 0
filled-all {f} {t₀} {t} {i} n q e h = tabled f n 0 t 0 (omega (arith, q.long)) (λ k l. q.done k (omega (arith, q.long)))
