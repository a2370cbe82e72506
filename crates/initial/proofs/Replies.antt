-- The two ways of `run` to the reply, accepted and refused: from what was found and what was written. Assumes nothing.
use mathlib.Core.Path.{◌≡◌, refl, ap, ◌∙◌}
use mathlib.Core.List.{List, [], ◌∷◌}
use Prim.Native.Nat.{ℕ, zero, suc, ◌-◌, ◌<◌, ◌≤◌}
use native.Mathlib.Nat.{not-suc-le-zero, le_of_suc-le-suc}
use native.Mathlib.Omega.{arith}
use borrow.Author.Tests.{lt-ltb, le-ltb}
use lib.ListN.{length, get_or, length-append}
use Rattle.octets.specs.Lists.{part, over}
use Rattle.work.specs.declared.Made.{Made}
use Rattle.work.specs.Steps.{comparison, counted, work_sum}
use Rattle.frame.specs.Declines.{pad_bytes}
use Rattle.plaid_types.specs.Keys.{lawful, key_length_of, str1_length}
use Rattle.plaid_types.specs.KeyLaws.{lawful-most, str1-most}
use Rattle.plaid_types.specs.Cards.{no_session, no_set, Reply}
use Rattle.plaid_types.specs.declared.KeySetId.{KeySetId}
use Rattle.plaid_types.specs.declared.KeySetSlot.{KeySetSlot}
use Rattle.plaid_types.specs.declared.Session.{Session}
use Rattle.plaid_types.specs.declared.Card.{Card}
use Rattle.initial.specs.Initial.{initial_steps, slot_of, str1, block_of, opened_with, accepted_initial, refused_initial, initial_reply}
use Rattle.initial.specs.Told.{data_found, head_of, told_initial}
use Rattle.initial.proofs.Laws.{initial-length}
use Rattle.initial.specs.declared.Initial.{Initial}
use Rattle.octets.specs.Writes.{over-next}
use Rattle.frame.specs.Laws.{length-pads}

-- an element that is there is the same by every default
get_or-there : (l : List KeySetSlot) (i : ℕ) (x y : KeySetSlot) → i < length l → get_or l i x ≡ get_or l i y
get_or-there [] i x y h = absurd (not-suc-le-zero h)
get_or-there (k ∷ ks) zero x y h = refl
get_or-there (k ∷ ks) (suc i) x y h = get_or-there ks i x y (le_of_suc-le-suc h)

-- L of a card is at most 32
pub length-fits : (n : ℕ) {l : ℕ} → l ≡ lawful n → l ≤ 32
length-fits n e = omega (arith, lawful-most n)

-- the head, and the text behind it
block_writes :
    (l : ℕ) (fresh text o : List ℕ) {at : ℕ} {e₁ e₂ : List ℕ}
    → l ≤ 32
    → length fresh ≡ 253
    → at ≡ 256 - str1_length l
    → e₁ ≡ over o 0 (head_of l fresh)
    → e₂ ≡ over e₁ at text
    → e₂ ≡ over o 0 (block_of l fresh text)
unfolding block_of
block_writes l fresh text o h lf a q₁ q₂ =
    over-next o (head_of l fresh) text 0 (omega (arith, length-append (pad_bytes l fresh) (0 ∷ []), length-pads l fresh lf, str1-most l h)) (omega arith) q₁ q₂

module _ (c : Card) (d fresh : List ℕ) {f : Made ℕ} {l : ℕ} (lf : length fresh ≡ 253) (ld : length c.div_data ≡ 16)
    (el : l ≡ key_length_of c) (q : f ≡ data_found c.sets d) where
  abbrev L : ℕ
  L = key_length_of c

  slot-found : f.value ≡ slot_of c d
  unfolding slot_of
  slot-found = ap (λ (x : Made ℕ). x.value) q

  steps-counted : f.count ≡ counted comparison (initial_steps c d)
  unfolding initial_steps
  steps-counted = ap (λ (x : Made ℕ). x.count) q

  steps-summed : f.sum ≡ work_sum (initial_steps c d)
  unfolding initial_steps
  steps-summed = ap (λ (x : Made ℕ). x.sum) q

  told_of : (r : Reply) → r ≡ initial_reply c d fresh → r.steps ≡ initial_steps c d →
      ◌≡◌ {A = Initial} (record { handle = r.handle; comparisons = f.count; length = 256; sum = f.sum; session = r.session }) (told_initial r)
  told_of r e s = rw (s, steps-counted, steps-summed, ap (λ (x : Reply). length x.bytes) e, initial-length c d fresh ld lf)

  is-accepted : f.value < 8 → accepted_initial c d fresh (get_or c.sets f.value no_set) ≡ initial_reply c d fresh
  unfolding initial_reply
  is-accepted h = rw (slot-found, lt-ltb (slot_of c d) 8 (rw slot-found at h))

  is-refused : 8 ≤ f.value → refused_initial c d fresh ≡ initial_reply c d fresh
  unfolding initial_reply
  is-refused h = rw (le-ltb (slot_of c d) 8 (rw slot-found at h))

  most : L ≤ 32
  most = lawful-most c.key_length

  head-of : (o : List ℕ) {e : List ℕ} → e ≡ over o 0 (head_of l fresh) → e ≡ over o 0 (head_of L fresh)
  head-of o w = w ∙ ap (λ (n : ℕ). over o 0 (head_of n fresh)) el

  -- the slot is read with a default of the code's own
  pub accepted :
      (o : List ℕ) (x : KeySetSlot) {e₁ e₂ : List ℕ} {s : Session}
      → length c.sets ≡ 8
      → f.value < 8
      → s ≡ opened_with (get_or c.sets f.value x) (part fresh 0 l)
      → e₁ ≡ over o 0 (head_of l fresh)
      → e₂ ≡ over e₁ (256 - str1_length l) (str1 (get_or c.sets f.value x).id c.div_data (part fresh 0 l))
      → (◌≡◌ {A = Initial}
      (record { handle = (get_or c.sets f.value x).handle; comparisons = f.count; length = 256; sum = f.sum; session = s })
      (told_initial (initial_reply c d fresh)))
      × (e₂ ≡ over o 0 (initial_reply c d fresh).bytes)
  accepted o x {e₁} {e₂} {s} ls h sn w₁ w₂ =
      let slot : KeySetSlot = get_or c.sets f.value x in
      let i : KeySetId = slot.id in
      let sl : s ≡ opened_with slot (part fresh 0 L) = sn ∙ ap (λ (n : ℕ). opened_with slot (part fresh 0 n)) el in
      let wl = w₂ ∙ ap (λ (n : ℕ). over e₁ (256 - str1_length n) (str1 i c.div_data (part fresh 0 n))) el in
      let k : get_or c.sets f.value x ≡ get_or c.sets f.value no_set = get_or-there c.sets f.value x no_set (omega arith) in
      let r : Reply = accepted_initial c d fresh (get_or c.sets f.value no_set) in
      let e : r ≡ initial_reply c d fresh = is-accepted h in (
        rw (sl, k) (told_of r e refl ∙ ap told_initial e),
        block_writes L fresh (str1 i c.div_data (part fresh 0 L)) o most lf refl (head-of o w₁) wl ∙ rw k (ap (λ (y : Reply). over o 0 y.bytes) e),
      )

  pub refused :
      (o : List ℕ) {n at : ℕ} {e₁ e₂ text : List ℕ} {s : Session}
      → 8 ≤ f.value
      → s ≡ no_session
      → n ≡ str1_length l
      → text ≡ part fresh 0 n
      → at ≡ 256 - str1_length l
      → e₁ ≡ over o 0 (head_of l fresh)
      → e₂ ≡ over e₁ at text
      → (◌≡◌ {A = Initial} (record { handle = c.shill_handle; comparisons = f.count; length = 256; sum = f.sum; session = s }) (told_initial (initial_reply c d fresh)))
      × (e₂ ≡ over o 0 (initial_reply c d fresh).bytes)
  refused o {n} {at} {e₁} {e₂} {text} {s} h sn nn tn an w₁ w₂ =
      let r : Reply = refused_initial c d fresh in
      let e : r ≡ initial_reply c d fresh = is-refused h in (
        rw sn (told_of r e refl ∙ ap told_initial e),
        block_writes L fresh text o most lf (an ∙ ap (λ (k : ℕ). 256 - str1_length k) el) (head-of o w₁) w₂
            ∙ ap (λ (x : List ℕ). over o 0 (block_of L fresh x)) (tn ∙ ap (part fresh 0) (nn ∙ ap str1_length el))
            ∙ ap (λ (x : Reply). over o 0 x.bytes) e,
      )
