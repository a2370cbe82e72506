-- The first listed set that a card holds and the slot of a mode, by what the load was given; the commands that List and Seal wrote. Assumes nothing.
use Rattle.std.specs.Prelude.{◌≡◌, Bool, true, false, cond, ◌||◌, List, [], ◌∷◌, ℕ, zero, suc, ◌+◌, ◌<◌, ◌≤◌, eqb, ltb, length, get_or}
use Rattle.std.proofs.Math.Path.{refl}
use Rattle.std.proofs.Common.{sym, ap, ap₂, ◌∙◌, true≢false, not-suc-le-zero, le_of_suc-le-suc, arith, eqb-true, eq-eqb, ltb-true, ltb-false}
use Rattle.octets.specs.Lists.{part}
use Rattle.steps.specs.Made.{set_matched, mode_matched}
use Rattle.plaid_types.specs.Cards.{no_set, no_mode}
use Rattle.plaid_types.specs.Keys.{bytes_of, value_of}
use Rattle.plaid_types.specs.declared.Value.{Value}
use Rattle.plaid_types.specs.declared.KeySetId.{KeySetId}
use Rattle.plaid_types.specs.declared.OpModeId.{OpModeId}
use Rattle.plaid_types.specs.declared.KeySetSlot.{KeySetSlot}
use Rattle.plaid_types.specs.declared.ModeSlot.{ModeSlot}
use Rattle.plaid_types.specs.declared.Card.{Card}
use Rattle.load.specs.Load.{some}
use Rattle.load.proofs.Laws.{some-none, set_at, mode_at, Stocked}
use Rattle.initial.specs.Initial.{first_slot}
use Rattle.final_command.specs.Final.{first_mode}
use Rattle.reader_list.specs.List.{given, list_command, list_number, listed, list_output}
use Rattle.reader_list.specs.declared.Written.{Written}
use Rattle.reader_open.specs.Open.{no_id}
use Rattle.reader_seal.specs.Seal.{keys_hash_of, sealed_command, seal_number, sealed_of, seal_output}
use Rattle.reader_seal.specs.Laws.{Sealable, sealable, seal-number, seal-done, seal-written}
use Rattle.reader_seal.specs.declared.Sealed.{Sealed}
use Rattle.session_initial.specs.Held.{held_in, held, first_of, Holds, slot-holds, IsFirst, first-is}
use Rattle.session_final.specs.Buffer.{over-part}
use Rattle.session_final.specs.Accepts.{first_found}

-- one of two numbers that are neither below the other
pub level : (a b : ℕ) → (a < b → ⊥) → (b < a → ⊥) → a ≡ b
level a b f g = by (ltb a b) (ltb b a) refl refl
  where
    by : (s t : Bool) → ltb a b ≡ s → ltb b a ≡ t → a ≡ b
    by true t p q = absurd (f (ltb-true a b p))
    by false true p q = absurd (g (ltb-true b a q))
    by false false p q = omega (arith, ltb-false a b p, ltb-false b a q)

or_right : (a b : Bool) → b ≡ true → (a || b) ≡ true
or_right true b e = refl
or_right false b e = e

-- a KeySetID is held where a slot holds it
pub held-there : (ss : List KeySetSlot) (k : KeySetId) (j : ℕ) → j < length ss → (get_or ss j no_set).held ≡ true → (get_or ss j no_set).id ≡ k → held_in ss k ≡ true
held-there [] k j h a b = absurd (not-suc-le-zero h)
held-there (s ∷ ss) k zero h a b = rw (a, eq-eqb k.0 s.id.0 (sym (ap (λ (x : KeySetId). x.0) b)))
held-there (s ∷ ss) k (suc j) h a b = or_right (set_matched true k s.held s.id) (held_in ss k) (held-there ss k j (le_of_suc-le-suc h) a b)

-- and nowhere else
nowhere-by :
    (ss : List KeySetSlot) (k : KeySetId) (t : Bool)
    → length ss ≡ 8
    → held_in ss k ≡ t
    → ((j : ℕ) → (get_or ss j no_set).held ≡ true → (get_or ss j no_set).id ≡ k → ⊥)
    → t ≡ false
nowhere-by ss k true l e f = let w = slot-holds k ss l e in absurd (f (first_slot 0 true k ss) w.kept w.id)
nowhere-by ss k false l e f = refl

some_at : (p : KeySetId → Bool) (ids : List KeySetId) (n : ℕ) (t : Bool) → some p ids ≡ t → n < length ids → p (get_or ids n no_id) ≡ true → t ≡ true
some_at p ids n true e h q = refl
some_at p ids n false e h q = absurd (true≢false (sym q ∙ some-none p ids no_id n e h))

first-unique : (p : KeySetId → Bool) (ids : List KeySetId) (a b : ℕ) → IsFirst p ids a → IsFirst p ids b → a ≡ b
first-unique p ids a b u v = level a b (λ h. true≢false (sym u.good ∙ v.before a h)) (λ h. true≢false (sym v.good ∙ u.before b h))

-- the listed KeySetID at place n is held by slot j, and no earlier one is held: n is the place of the first that the card holds
module _ (c : Card) (g : Stocked c) (ids : List KeySetId) (n j : ℕ) (h : n < length ids) (below : j < 8) (kept : (set_at c j).held ≡ true) (id : (set_at c j).id ≡ get_or ids n no_id)
    (none : (i m : ℕ) → i < n → (set_at c m).held ≡ true → (set_at c m).id ≡ get_or ids i no_id → ⊥) where
  is-first : IsFirst (held c) ids n
  is-first =
      record {
        within = h;
        good = held-there c.sets (get_or ids n no_id) j (omega (arith, g.sets-long)) kept id;
        before = λ i q. nowhere-by c.sets (get_or ids i no_id) (held c (get_or ids i no_id)) g.sets-long refl (λ m. none i m q);
      }

  pub listed-held : some (held c) ids ≡ true
  listed-held = some_at (held c) ids n (some (held c) ids) refl h is-first.good

  pub place_is : first_of (held c) ids ≡ n
  place_is = first-unique (held c) ids (first_of (held c) ids) n (first-is (held c) ids listed-held) is-first

-- two slots that hold one KeySetID are one
pub slot-unique : (c : Card) → Stocked c → (k : KeySetId) {i j : ℕ} → Holds c.sets i k → Holds c.sets j k → i ≡ j
slot-unique c g k {i} {j} v w =
    level i j (λ h. g.set-once i j h v.kept w.kept (ap (λ (x : KeySetId). x.0) (v.id ∙ sym w.id))) (λ h. g.set-once j i h w.kept v.kept (ap (λ (x : KeySetId). x.0) (w.id ∙ sym v.id)))

-- the slot that holds a mode is the first that matches it
first_step : (i m f : ℕ) (t : Bool) → f ≤ suc i + m → cond t i f ≤ i + suc m
first_step i m f true h = omega arith
first_step i m f false h = omega arith

first-most : (v : OpModeId) (ms : List ModeSlot) (i m : ℕ) → m < length ms → mode_matched v (get_or ms m no_mode).held (get_or ms m no_mode).id ≡ true → first_mode i v ms ≤ i + m
first-most v [] i m h e = absurd (not-suc-le-zero h)
first-most v (x ∷ ms) i zero h e = rw e (omega arith)
first-most v (x ∷ ms) i (suc m) h e =
    first_step i m (first_mode (suc i) v ms) (mode_matched v x.held x.id) (first-most v ms (suc i) m (le_of_suc-le-suc h) e)

module _ (c : Card) (g : Stocked c) (v : OpModeId) (m : ℕ) (h : m < 16) (kept : (mode_at c m).held ≡ true) (id : (mode_at c m).id ≡ v) where
  most : first_mode 0 v c.modes ≤ m
  most = omega (arith, first-most v c.modes 0 m (omega (arith, g.modes-long)) (rw (kept, eq-eqb v.0 (mode_at c m).id.0 (sym (ap (λ (x : OpModeId). x.0) id)))))

  pub mode-found : first_mode 0 v c.modes < 16
  mode-found = omega (arith, most)

  pub mode-is : first_mode 0 v c.modes ≡ m
  mode-is =
      let w = first_found v c.modes (omega (arith, mode-found, g.modes-long)) in
      level (first_mode 0 v c.modes) m (λ q. g.mode-once (first_mode 0 v c.modes) m q w.is_held kept (ap (λ (x : OpModeId). x.0) (w.is-mode ∙ sym id))) (λ q. omega (arith, most))

-- List's command, in its output
list-zero : (n k : ℕ) (t : Bool) → eqb n 0 ≡ t → (cond {A = Written} t (record { number = 0; length = k }) (record { number = n; length = 0 })).number ≡ 0 → n ≡ 0
list-zero n k true e z = eqb-true n 0 e
list-zero n k false e z = z

module _ (ids : List KeySetId) (n : ℕ) (out : List ℕ) (z : (listed ids n (length out)).number ≡ 0) where
  pub list-number : list_number ids n (length out) ≡ 0
  unfolding listed
  list-number = list-zero (list_number ids n (length out)) (length (list_command (given ids n))) (eqb (list_number ids n (length out)) 0) refl z

  pub list-sent : part (list_output ids n out) 0 (listed ids n (length out)).length ≡ list_command (given ids n)
  unfolding listed list_output
  list-sent = rw (eq-eqb (list_number ids n (length out)) 0 list-number) (over-part out (list_command (given ids n)) (length (list_command (given ids n))) refl)

-- Seal's command, in its output, and KeysHash
module _ (l : ℕ) (fa : Value) (div : List ℕ) (r1 r2 : Value) (mode : OpModeId) (payload out : List ℕ) (z : (sealed_of l fa div r1 r2 mode payload (length out)).number ≡ 0) where
  none : seal_number l fa r1 r2 (length payload) (length out) ≡ 0
  none = sym (seal-number l fa div r1 r2 mode payload (length out)) ∙ z

  pub seal-seen : Sealable l fa r1 r2 (length payload) (length out)
  seal-seen = sealable l fa r1 r2 (length payload) (length out) none

  pub seal-hash : (sealed_of l fa div r1 r2 mode payload (length out)).keys_hash ≡ value_of (keys_hash_of l (bytes_of r1) (bytes_of r2))
  seal-hash = ap (λ (s : Sealed). s.keys_hash) (seal-done l fa div r1 r2 mode payload out none)

  pub seal-sent : part (seal_output l fa div r1 r2 mode payload out) 0 (sealed_of l fa div r1 r2 mode payload (length out)).length ≡ sealed_command l fa div r1 r2 mode payload
  seal-sent =
      let c : List ℕ = sealed_command l fa div r1 r2 mode payload in
      ap₂ (λ (o : List ℕ) (s : Sealed). part o 0 s.length) (seal-written l fa div r1 r2 mode payload out none) (seal-done l fa div r1 r2 mode payload out none)
      ∙ over-part out c (length c) refl
