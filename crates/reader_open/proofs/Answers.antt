-- What Open tells, by the tests that led there, and what it hands back. Assumes nothing.
use mathlib.Core.Path.{◌≡◌, sym, ap, ap₂, ◌∙◌}
use mathlib.Core.Bool.{true, false}
use mathlib.Core.List.{List}
use Prim.Native.Nat.{ℕ, ◌*◌, ◌<◌, ◌≤◌}
use native.Mathlib.Omega.{arith}
use borrow.Author.Tests.{lt-ltb, le-ltb, eq-eqb, ne_eqb}
use lib.ListN.{length, get_or, replicate}
use Rattle.key_expansion.specs.KeyLength.{is_key_length}
use Rattle.plaid_types.specs.declared.KeySetId.{KeySetId}
use Rattle.plaid_types.specs.declared.Value.{Value}
use Rattle.plaid_types.specs.Keys.{no_value}
use Rattle.refusals.specs.declared.Refusal.{Refusal}
use Rattle.refusals.specs.Numbers.{number_of}
use Rattle.refusals.specs.Laws.{number-some}
use Rattle.reader_open.specs.declared.Opened.{Opened}
use Rattle.reader_open.specs.Open.{winner, open_number, no_id, opened_at, opened}
use Rattle.reader_open.specs.Laws.{winner-at-most}

-- the winner's place, if a block opens
pub winner-below : (l : ℕ) (ids : List KeySetId) (n : ℕ) (blocks : List ℕ) {w : ℕ} → length ids ≡ 16 → n ≤ 16 → w ≡ winner l ids n blocks → (w ≡ n → ⊥) → w < n
winner-below l ids n blocks k h e z = omega (arith, winner-at-most l ids n blocks (omega arith))

module _ (l : ℕ) (ids : List KeySetId) (n : ℕ) (blocks : List ℕ) where
  pub not-opened : (r : Refusal) {k : ℕ} {v : Value} → k ≡ number_of r → v ≡ no_value → number_of r ≡ open_number l ids n blocks →
      ◌≡◌ {A = Opened} (record { number = k; place = 0; id = no_id; div_data = replicate 16 0; rnd1 = v }) (opened l ids n blocks)
  unfolding opened
  not-opened r ek ev e =
      ap₂ (λ (x : ℕ) (y : Value). record { number = x; place = 0; id = no_id; div_data = replicate 16 0; rnd1 = y }) (ek ∙ e) ev
      ∙ sym (simp (ne_eqb (open_number l ids n blocks) 0 (λ z. omega (arith, number-some r))))

  pub opened-found : {w : ℕ} {r : Opened} → 0 ≡ open_number l ids n blocks → w ≡ winner l ids n blocks → r ≡ opened_at l (get_or ids w no_id) blocks w → r ≡ opened l ids n blocks
  unfolding opened
  opened-found e is a = a ∙ ap (λ (i : ℕ). opened_at l (get_or ids i no_id) blocks i) is ∙ sym (simp (sym e))

  pub length-other : is_key_length l ≡ false → 21 ≡ open_number l ids n blocks
  unfolding open_number
  length-other e = simp e

  module _ (e : is_key_length l ≡ true) where
    pub count_none : n ≡ 0 → 14 ≡ open_number l ids n blocks
    unfolding open_number
    count_none h = simp (e, eq-eqb n 0 h)

    pub count-over : (n ≡ 0 → ⊥) → 16 < n → 14 ≡ open_number l ids n blocks
    unfolding open_number
    count-over z h = simp (e, ne_eqb n 0 z, lt-ltb 16 n h)

    module _ (z : n ≡ 0 → ⊥) (h : n ≤ 16) where
      pub total-other : (length blocks ≡ 256 * n → ⊥) → 14 ≡ open_number l ids n blocks
      unfolding open_number
      total-other t = simp (e, ne_eqb n 0 z, le-ltb 16 n h, ne_eqb (length blocks) (256 * n) t)

      module _ (t : length blocks ≡ 256 * n) {w : ℕ} (is : w ≡ winner l ids n blocks) where
        pub none-opens : w ≡ n → 15 ≡ open_number l ids n blocks
        unfolding open_number
        none-opens q = simp (e, ne_eqb n 0 z, le-ltb 16 n h, eq-eqb (length blocks) (256 * n) t, eq-eqb (winner l ids n blocks) n (sym is ∙ q))

        pub one-opens : (w ≡ n → ⊥) → 0 ≡ open_number l ids n blocks
        unfolding open_number
        one-opens q = simp (e, ne_eqb n 0 z, le-ltb 16 n h, eq-eqb (length blocks) (256 * n) t, ne_eqb (winner l ids n blocks) n (λ p. q (is ∙ p)))
