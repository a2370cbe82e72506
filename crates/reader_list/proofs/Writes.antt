-- Writes one behind the other, as one: those of the entries, and those of the command. Assumes nothing.
use mathlib.Core.Path.{◌≡◌, refl, sym, ap, ◌∙◌}
use mathlib.Core.List.{List, [], ◌∷◌, ◌++◌}
use Prim.Native.Nat.{ℕ, ◌+◌, ◌*◌, ◌/◌, ◌%◌, ◌<◌, ◌≤◌}
use native.Mathlib.Numerals.{add-one}
use native.Mathlib.Omega.{arith}
use lib.ListN.{length, get_or, take}
use lib.Seq.{length-take-le, take-suc}
use Rattle.octets.specs.Lists.{over}
use Rattle.octets.specs.Writes.{over-next}
use Rattle.list.specs.Encoding.{short_entries, encoded}
use Rattle.list.specs.Meaning.{length-short, length-encoded}
use Rattle.reader_list.specs.List.{list_command}

-- the bytes of one entry
abbrev entry : ℕ → List ℕ
entry k = 4 ∷ 2 ∷ k / 256 ∷ k % 256 ∷ []

pub entry-made : (k : ℕ) {b : List ℕ} → k < 65536 → b ≡ k / 256 % 256 ∷ k % 256 ∷ [] → 4 ∷ 2 ∷ get_or b 0 0 ∷ get_or b 1 0 ∷ [] ≡ entry k
entry-made k {b} h e = rw e (ap (λ (x : ℕ). 4 ∷ 2 ∷ x ∷ k % 256 ∷ []) (omega arith))

short-snoc : (ids : List ℕ) (k : ℕ) → short_entries (ids ++ (k ∷ [])) ≡ short_entries ids ++ entry k
unfolding short_entries
short-snoc [] k = refl
short-snoc (x ∷ ids) k = ap (λ (s : List ℕ). 4 ∷ 2 ∷ x / 256 ∷ x % 256 ∷ s) (short-snoc ids k)

pub entries-turn : (d ids : List ℕ) (i : ℕ) {e e' : List ℕ} → i < length ids → 7 ≤ length d → e ≡ over d 7 (short_entries (take i ids)) →
    e' ≡ over e (7 + 4 * i) (entry (get_or ids i 0)) → e' ≡ over d 7 (short_entries (take (i + 1) ids))
entries-turn d ids i h k q r =
    let s : List ℕ = short_entries (take i ids) in
    let l : length s ≡ 4 * i = length-short (take i ids) ∙ ap (λ (n : ℕ). 4 * n) (length-take-le i ids (omega arith)) in
    over-next d s (entry (get_or ids i 0)) 7 (omega arith) k q r
    ∙ ap (over d 7) (sym (ap short_entries (ap (λ (n : ℕ). take n ids) (add-one i) ∙ take-suc ids i 0 h) ∙ short-snoc (take i ids) (get_or ids i 0)))

-- what stands before the entries
abbrev head : ℕ → List ℕ
head n = 0 ∷ 0x87 ∷ 0 ∷ 0 ∷ (n + 2) ∷ 0x30 ∷ n ∷ []

pub command-writes : (d ids : List ℕ) {e₁ e₂ e₃ : List ℕ} → e₁ ≡ over d 0 (head (4 * length ids)) → e₂ ≡ over e₁ 7 (short_entries ids) →
    e₃ ≡ over e₂ (4 * length ids + 7) (0 ∷ []) → e₃ ≡ over d 0 (list_command ids)
unfolding list_command encoded
command-writes d ids q₁ q₂ q₃ =
    let h : List ℕ = head (4 * length ids) in
    over-next d (h ++ short_entries ids) (0 ∷ []) 0 (omega (arith, length-short ids)) (omega arith) (over-next d h (short_entries ids) 0 refl (omega arith) q₁ q₂) q₃
    ∙ ap (λ (n : ℕ). over d 0 (0 ∷ 0x87 ∷ 0 ∷ 0 ∷ n ∷ (encoded ids ++ (0 ∷ [])))) (sym (length-encoded ids))
