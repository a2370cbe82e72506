-- What List hands back and leaves in the output, told by the tests that led there. Assumes nothing.
use mathlib.Core.Path.{◌≡◌, sym, ap, ◌∙◌}
use mathlib.Core.Bool.{Bool, true, false}
use mathlib.Core.List.{List}
use Prim.Native.Nat.{ℕ, ◌+◌, ◌*◌, ◌<◌, ◌≤◌}
use native.Mathlib.Omega.{arith}
use borrow.Author.Tests.{lt-ltb, le-ltb, eq-eqb, ne_eqb}
use lib.ListN.{length, take, length-map}
use lib.Seq.{length-take-le}
use Rattle.octets.specs.Lists.{over}
use Rattle.load.specs.Load.{repeated}
use Rattle.refusals.specs.Numbers.{number_of}
use Rattle.refusals.specs.Laws.{number-some}
use Rattle.refusals.specs.declared.Refusal.{Refusal}
use Rattle.plaid_types.specs.declared.KeySetId.{KeySetId}
use Rattle.reader_list.specs.declared.Written.{Written}
use Rattle.reader_list.specs.List.{numbers, given, list_command, list_number, listed, list_output}
use Rattle.reader_list.specs.Laws.{length-command}

-- the length of the command of n KeySetIDs out of sixteen
pub length-given : (ids : List KeySetId) (n : ℕ) → length ids ≡ 16 → n ≤ 16 → length (given ids n) ≡ n
length-given ids n l h = length-take-le n (numbers ids) (omega (arith, length-map ids (λ (k : KeySetId). k.0)))

long : (ids : List KeySetId) (n : ℕ) → length ids ≡ 16 → n ≤ 16 → length (list_command (given ids n)) ≡ 4 * n + 8
long ids n l h = omega (arith, length-command (given ids n), length-given ids n l h)

-- whether a KeySetID is repeated, as the code finds it in the numbers
pub found : (ids : List KeySetId) (n : ℕ) {all : List ℕ} {r t : Bool} → all ≡ numbers ids → r ≡ repeated (take n all) → r ≡ t → repeated (given ids n) ≡ t
found ids n q e z = sym (e ∙ ap (λ (l : List ℕ). repeated (take n l)) q) ∙ z

module _ (ids : List KeySetId) (n room : ℕ) where
  pub count_none : n ≡ 0 → list_number ids n room ≡ 11
  unfolding list_number
  count_none h = simp (eq-eqb n 0 h)

  pub count-over : (n ≡ 0 → ⊥) → 16 < n → list_number ids n room ≡ 11
  unfolding list_number
  count-over z h = simp (ne_eqb n 0 z, lt-ltb 16 n h)

  pub id-again : (n ≡ 0 → ⊥) → n ≤ 16 → repeated (given ids n) ≡ true → list_number ids n room ≡ 12
  unfolding list_number
  id-again z h f = simp (ne_eqb n 0 z, le-ltb 16 n h, f)

  pub out-short : length ids ≡ 16 → (n ≡ 0 → ⊥) → n ≤ 16 → repeated (given ids n) ≡ false → room < 4 * n + 8 → list_number ids n room ≡ 13
  unfolding list_number
  out-short l z h f o = simp (ne_eqb n 0 z, le-ltb 16 n h, f, long ids n l h, lt-ltb room (4 * n + 8) o)

  pub none-applies : length ids ≡ 16 → (n ≡ 0 → ⊥) → n ≤ 16 → repeated (given ids n) ≡ false → 4 * n + 8 ≤ room → list_number ids n room ≡ 0
  unfolding list_number
  none-applies l z h f o = simp (ne_eqb n 0 z, le-ltb 16 n h, f, long ids n l h, le-ltb room (4 * n + 8) o)

module _ (ids : List KeySetId) (n : ℕ) (out : List ℕ) where
  pub answer-declined : (r : Refusal) {k : ℕ} → k ≡ number_of r → number_of r ≡ list_number ids n (length out) →
      (◌≡◌ {A = Written} (record { number = k; length = 0 }) (listed ids n (length out))) × (out ≡ list_output ids n out)
  unfolding listed list_output
  answer-declined r ek e =
      let z = ne_eqb (list_number ids n (length out)) 0 (λ z. omega (arith, number-some r)) in
      (ap (λ (x : ℕ). record { number = x; length = 0 }) (ek ∙ e) ∙ sym (simp z), sym (simp z))

  pub command-made : {all e : List ℕ} {m : ℕ} → 0 ≡ list_number ids n (length out) →
      all ≡ numbers ids → m ≡ length (list_command (take n all)) → e ≡ over out 0 (list_command (take n all)) →
      (◌≡◌ {A = Written} (record { number = 0; length = m }) (listed ids n (length out))) × (e ≡ list_output ids n out)
  unfolding listed list_output
  command-made {all} {e} {m} k q a b = (rw (a, q) (simp (← k)), rw (b, q) (simp (← k)))
