-- The turn and the end of the loop that looks for the first block that opens. Assumes nothing.
use mathlib.Core.Path.{◌≡◌, sym, ap, ◌∙◌}
use mathlib.Core.Bool.{Bool, cond}
use mathlib.Core.List.{List}
use Prim.Native.Nat.{ℕ, ◌+◌, ◌<◌, ◌≤◌}
use native.Mathlib.Numerals.{add-one}
use lib.Dec.{eqb}
use lib.ListN.{length, get_or, drop, drop_of_length-le}
use lib.Seq.{drop-cons}
use Rattle.steps.specs.Made.{kept}
use Rattle.steps.specs.Laws.{kept_next, kept-last}
use Rattle.plaid_types.specs.declared.KeySetId.{KeySetId}
use Rattle.reader_open.specs.Open.{opens_as, block_at, first_open, no_id}

first_next : (l : ℕ) (blocks : List ℕ) (ids : List KeySetId) (i : ℕ) → i < length ids →
    first_open l blocks i (drop i ids) ≡ cond (opens_as l (get_or ids i no_id) (block_at blocks i)) i (first_open l blocks (i + 1) (drop (i + 1) ids))
first_next l blocks ids i h = rw (add-one, drop-cons ids i no_id)

-- `first` is the winner so far, or n; what is found from place i on, with it, is the winner w
pub first-turn : (l : ℕ) (blocks : List ℕ) (ids : List KeySetId) (n i first : ℕ) {next w : ℕ} {hit : Bool} → i < n → i < length ids →
    hit ≡ opens_as l (get_or ids i no_id) (block_at blocks i) → next ≡ kept n first i hit →
    cond (eqb first n) (first_open l blocks i (drop i ids)) first ≡ w →
    cond (eqb next n) (first_open l blocks (i + 1) (drop (i + 1) ids)) next ≡ w
first-turn l blocks ids n i first {next} {w} {hit} h k o q e =
    ap (λ (x : ℕ). cond (eqb x n) (first_open l blocks (i + 1) (drop (i + 1) ids)) x) q
    ∙ kept_next n first i (first_open l blocks (i + 1) (drop (i + 1) ids)) hit h
    ∙ ap (λ (b : Bool). cond (eqb first n) (cond b i (first_open l blocks (i + 1) (drop (i + 1) ids))) first) o
    ∙ sym (ap (λ (x : ℕ). cond (eqb first n) x first) (first_next l blocks ids i k))
    ∙ e

pub first_done : (l : ℕ) (blocks : List ℕ) (ids : List KeySetId) (n i first : ℕ) {w : ℕ} → i ≡ n → length ids ≤ i →
    cond (eqb first n) (first_open l blocks i (drop i ids)) first ≡ w → first ≡ w
first_done l blocks ids n i first h k e =
    sym (ap (λ (x : List KeySetId). cond (eqb first n) (first_open l blocks i x) first) (drop_of_length-le ids {i = i} k)
    ∙ ap (λ (x : ℕ). cond (eqb first n) x first) h
    ∙ kept-last n first)
    ∙ e
