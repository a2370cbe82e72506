-- The loop of `hash`: what is left of the steps, taken into the sum now, is all of them, taken into the first. Assumes nothing.
use mathlib.Core.Path.{◌≡◌, sym, ap, ap₂, ◌∙◌}
use mathlib.Core.List.{List, []}
use Prim.Native.Nat.{ℕ, suc, ◌+◌, ◌-◌, ◌<◌}
use Rattle.octets.specs.Lists.{table}
use Rattle.sha_padding.specs.Parsing.{block_at}
use Rattle.sha_block.specs.Hash.{compressed, state_after, digest_bytes}
use Rattle.work.specs.Steps.{Step, hash_block, bytes_of, mixed_all, sum_from}
use Rattle.steps.specs.Made.{hash_step}
use Rattle.steps.specs.Laws.{table-next}

abbrev step : List ℕ → List ℕ → List ℕ → Step
step k b o = record { kind = hash_block; key = k; input = b; output = o }

module _ (m : List ℕ) (i : ℕ) {h x b : List ℕ} (eh : h ≡ state_after m i) (eb : b ≡ block_at m i) (ex : x ≡ compressed h b) where
  pub state-turn : x ≡ state_after m (suc i)
  unfolding state_after
  state-turn = ex ∙ ap₂ compressed eh eb

  pub sum-turn : (n s s' all : ℕ) (k o : List ℕ) → i < n → k ≡ [] → o ≡ digest_bytes x → s' ≡ mixed_all s (bytes_of (step k b o)) → sum_from s (table (hash_step m) (n - i) i) ≡ all → sum_from s' (table (hash_step m) (n - (i + 1)) (i + 1)) ≡ all
  sum-turn n s s' all k o l ek eo es q =
      ap (λ (t : ℕ). sum_from t (table (hash_step m) (n - (i + 1)) (i + 1))) (es ∙ same)
      ∙ sym (ap (sum_from s) (table-next (hash_step m) n i l))
      ∙ q
    where
      same : mixed_all s (bytes_of (step k b o)) ≡ mixed_all s (bytes_of (hash_step m i))
      same = ap₂ (λ (u v : List ℕ). mixed_all s (bytes_of (step u b v))) ek (eo ∙ ap digest_bytes state-turn)
          ∙ ap (λ (u : List ℕ). mixed_all s (bytes_of (step [] u (digest_bytes (state_after m (suc i)))))) eb
