-- Laws of a load: what a load that is not refused has shown, and what it makes of a card. Assumes nothing.
use Rattle.std.specs.Prelude.{◌≡◌, Bool, cond, ◌||◌, List, [], ◌∷◌, ◌++◌, map, eqb, ltb, length, get_or, take, replicate}
use Rattle.std.proofs.Math.Path.{refl}
use Rattle.std.proofs.Common.{sym, subst, ap, ◌∙◌, not-suc-le-zero, le_of_suc-le-suc, arith, eqb-true, ltb-true, ltb-false, le-ltb, eq-eqb, ne_eqb, length-append, length-take, length-take-le, get_or-take, get_or-append-add}
use Rattle.std.proofs.Math.Bool.{true, false, not}
use Prim.Native.Nat.{ℕ, zero, suc, ◌+◌, ◌-◌, ◌<◌, ◌≤◌}
use Rattle.std.proofs.lemmas.Bool.{eqb-false}
use Rattle.std.proofs.lemmas.List.{length-replicate}
use Rattle.std.proofs.Math.ListN.{length-map, get_or-append, get_or-map}
use Rattle.octets.specs.Lists.{part}
use Rattle.key_expansion.specs.KeyLength.{is_key_length, length-least, length_most}
use Rattle.plaid_types.specs.Keys.{key_length_of, wide, held, bytes_of, of_length}
use Rattle.plaid_types.specs.KeyLaws.{lawful-is, length-wide, held-wide, length-held}
use Rattle.plaid_types.specs.Tries.{no_tries}
use Rattle.plaid_types.specs.Cards.{no_set, no_mode, no_session, with_session, with_tries, with_sets}
use Rattle.plaid_types.specs.declared.Value.{Value}
use Rattle.plaid_types.specs.declared.KeySet.{KeySet}
use Rattle.plaid_types.specs.declared.KeySetSlot.{KeySetSlot}
use Rattle.plaid_types.specs.declared.Mode.{Mode}
use Rattle.plaid_types.specs.declared.ModeSlot.{ModeSlot}
use Rattle.plaid_types.specs.declared.Session.{Session}
use Rattle.plaid_types.specs.declared.Tries.{Tries}
use Rattle.plaid_types.specs.declared.Card.{Card}
use Rattle.load.specs.declared.Loaded.{Loaded}
use Rattle.load.specs.Load.{past_set, past_mode, some, miscounted, repeated, set_ids, mode_ids, wrong_keys, with_handle, bad_record, reply_size_for, larger, largest_size}
use Rattle.load.specs.Load.{modes_refusal, sets_refusal, or_else, refusal, filled, set_slot, table_of, mode_slot, loaded_card, blank_card, loaded}

-- the larger of two is no less than either, and no more than what both are at most
larger-left : (a b : ℕ) (t : Bool) → ltb a b ≡ t → a ≤ cond t b a
larger-left a b true e = omega (arith, ltb-true a b e)
larger-left a b false e = omega arith

larger-right : (a b : ℕ) (t : Bool) → ltb a b ≡ t → b ≤ cond t b a
larger-right a b true e = omega arith
larger-right a b false e = ltb-false a b e

larger-below : (a b k : ℕ) (t : Bool) → a ≤ k → b ≤ k → cond t b a ≤ k
larger-below a b k true h l = l
larger-below a b k false h l = h

-- so it does not matter which two are taken first, and 0 is no larger
pub larger-assoc : (a b c : ℕ) → larger (larger a b) c ≡ larger a (larger b c)
larger-assoc a b c =
    let ab : ℕ = larger a b in
    let bc : ℕ = larger b c in
    let l : ℕ = larger ab c in
    let r : ℕ = larger a bc in
    let la = larger-left a b (ltb a b) refl in
    let lb = larger-right a b (ltb a b) refl in
    let lab = larger-left ab c (ltb ab c) refl in
    let lc = larger-right ab c (ltb ab c) refl in
    let rb = larger-left b c (ltb b c) refl in
    let rc = larger-right b c (ltb b c) refl in
    let ra = larger-left a bc (ltb a bc) refl in
    let rbc = larger-right a bc (ltb a bc) refl in
    let x : l ≤ r = larger-below ab c r (ltb ab c) (larger-below a b r (ltb a b) ra (omega arith)) (omega arith) in
    let y : r ≤ l = larger-below a bc l (ltb a bc) (omega arith) (larger-below b c l (ltb b c) (omega arith) lc) in
    omega arith

pub larger-none : (a : ℕ) → larger 0 a ≡ a
larger-none a = omega (arith, larger-below 0 a a (ltb 0 a) (omega arith) (omega arith), larger-right 0 a (ltb 0 a) refl)

pub larger-than-none : (a : ℕ) → larger a 0 ≡ a
larger-than-none a = omega (arith, larger-below a 0 a (ltb a 0) (omega arith) (omega arith), larger-left a 0 (ltb a 0) refl)

-- "the largest that any record needs": no record needs more, and it is the least such number
pub size-each : (ms : List Mode) (i : ℕ) → i < length ms → reply_size_for (get_or ms i past_mode).len ≤ largest_size ms
size-each [] i h = absurd (not-suc-le-zero h)
size-each (m ∷ ms) zero h = larger-left (reply_size_for m.len) (largest_size ms) (ltb (reply_size_for m.len) (largest_size ms)) refl
size-each (m ∷ ms) (suc i) h =
    omega (arith, size-each ms i (le_of_suc-le-suc h), larger-right (reply_size_for m.len) (largest_size ms) (ltb (reply_size_for m.len) (largest_size ms)) refl)

pub size_below : (ms : List Mode) (b : ℕ) → ((i : ℕ) → i < length ms → reply_size_for (get_or ms i past_mode).len ≤ b) → largest_size ms ≤ b
size_below [] b f = omega arith
size_below (m ∷ ms) b f =
    larger-below (reply_size_for m.len) (largest_size ms) b (ltb (reply_size_for m.len) (largest_size ms)) (f 0 (omega arith))
    (size_below ms b (λ i h. f (suc i) (omega arith)))

-- the first n of a list, mapped
pub map-take : {A B : Type 0} (f : A → B) (n : ℕ) (l : List A) → take n (map f l) ≡ map f (take n l)
map-take f zero l = refl
map-take f (suc n) [] = refl
map-take {B = B} f (suc n) (x ∷ xs) = ap (λ (t : List B). f x ∷ t) (map-take f n xs)

-- two tests of which neither holds
pub neither : (a b : Bool) → (a || b) ≡ false → (a ≡ false) × (b ≡ false)
neither true b e = let z : ◌≡◌ {A = ℕ} 0 1 = cc in absurd (omega arith)
neither false b e = (refl, e)

-- a look that finds nothing: p holds of no element
pub some-none : {A : Type 0} (p : A → Bool) (l : List A) (d : A) (i : ℕ) → some p l ≡ false → i < length l → p (get_or l i d) ≡ false
some-none p [] d i e h = absurd (not-suc-le-zero h)
some-none p (x ∷ xs) d zero e h = (neither (p x) (some p xs) e).0
some-none p (x ∷ xs) d (suc i) e h = some-none p xs d i (neither (p x) (some p xs) e).1 (le_of_suc-le-suc h)

-- no number stands again: two places hold two numbers
pub repeated-none : (l : List ℕ) (i j : ℕ) → repeated l ≡ false → i < j → j < length l → get_or l i 0 ≡ get_or l j 0 → ⊥
repeated-none [] i j e h k q = not-suc-le-zero k
repeated-none (x ∷ xs) i zero e h k q = not-suc-le-zero h
repeated-none (x ∷ xs) zero (suc j) e h k q =
    eqb-false x (get_or xs j 0) (some-none (eqb x) xs 0 j (neither (some (eqb x) xs) (repeated xs) e).0 (le_of_suc-le-suc k)) q
repeated-none (x ∷ xs) (suc i) (suc j) e h k q =
    repeated-none xs i j (neither (some (eqb x) xs) (repeated xs) e).1 (le_of_suc-le-suc h) (le_of_suc-le-suc k) q

-- what the checks of key sets have shown that refuse none
pub record SetsRight (l : ℕ) (sets : List KeySet) (n : ℕ) (other : Bool) (handle : ℕ) : Type 0 where
  pub sets-some : 0 < n
  pub sets-most : n ≤ 8
  pub keys-right : wrong_keys l (take n sets) ≡ false
  pub other-right : other ≡ false
  pub ids-once : repeated (set_ids (take n sets)) ≡ false
  pub handles-other : with_handle handle (take n sets) ≡ false

-- what a load has shown that is not refused
pub record Accepted (l : ℕ) (sets : List KeySet) (n : ℕ) (modes : List Mode) (m area : ℕ) (key : Value) (handle : ℕ) : Type 0 where
  pub length-one : is_key_length l ≡ true
  pub of-sets : SetsRight l sets n (not (of_length l key)) handle
  pub key_right : key.length ≡ l
  pub modes-some : 0 < m
  pub modes-most : m ≤ 16
  pub mode-ids-once : repeated (mode_ids (take m modes)) ≡ false
  pub area-most : area ≤ 1024
  pub records-good : some (bad_record area) (take m modes) ≡ false

pub counted : (most n : ℕ) → miscounted most n ≡ false → (0 < n) × (n ≤ most)
counted most n e =
    let a = neither (eqb n 0) (ltb most n) e in
    let z = eqb-false n 0 a.0 in
    let l = ltb-false most n a.1 in
    (omega arith, l)

-- a test that is not denied
denied : (t : Bool) → not t ≡ false → t ≡ true
denied true e = refl
denied false e = sym e

right : (l : ℕ) (v : Value) → not (of_length l v) ≡ false → v.length ≡ l
right l v e = eqb-true v.length l (denied (of_length l v) e)

module _ (l : ℕ) (sets : List KeySet) (n : ℕ) (other : Bool) (handle : ℕ) where
  sets-by : (s k t u : Bool) →
      miscounted 8 n ≡ s →
      (wrong_keys l (take n sets) || other) ≡ k →
      repeated (set_ids (take n sets)) ≡ t →
      with_handle handle (take n sets) ≡ u →
      ◌≡◌ {A = ℕ} (cond s 1 (cond k 22 (cond t 2 (cond u 3 0)))) 0 →
      SetsRight l sets n other handle
  sets-by true k t u es ek et eu z = absurd (omega arith)
  sets-by false true t u es ek et eu z = absurd (omega arith)
  sets-by false false true u es ek et eu z = absurd (omega arith)
  sets-by false false false true es ek et eu z = absurd (omega arith)
  sets-by false false false false es ek et eu z =
      let a = counted 8 n es in
      let d = neither (wrong_keys l (take n sets)) other ek in
      record { sets-some = a.0; sets-most = a.1; keys-right = d.0; other-right = d.1; ids-once = et; handles-other = eu }

  pub sets-right : sets_refusal l sets n other handle ≡ 0 → SetsRight l sets n other handle
  unfolding sets_refusal
  sets-right z =
      sets-by (miscounted 8 n) (wrong_keys l (take n sets) || other) (repeated (set_ids (take n sets))) (with_handle handle (take n sets)) refl refl refl refl z

-- and such sets are not refused
pub right-none : {l : ℕ} {sets : List KeySet} {n : ℕ} {other : Bool} {handle : ℕ} → SetsRight l sets n other handle → sets_refusal l sets n other handle ≡ 0
unfolding sets_refusal
right-none {n = n} k = rw (ne_eqb n 0 (λ z. omega (arith, k.sets-some)), le-ltb 8 n k.sets-most, k.keys-right, k.other-right, k.ids-once, k.handles-other)

-- of two numbers, one after the other, neither is given
neither-number : (a b : ℕ) (t : Bool) → eqb a 0 ≡ t → cond t b a ≡ 0 → (a ≡ 0) × (b ≡ 0)
neither-number a b true e z = (eqb-true a 0 e, z)
neither-number a b false e z = absurd (eqb-false a 0 e z)

module _ (l : ℕ) (sets : List KeySet) (n : ℕ) (modes : List Mode) (m area : ℕ) (key : Value) (handle : ℕ) where
  modes-by : (v w x : Bool) →
      is_key_length l ≡ true →
      sets_refusal l sets n (not (of_length l key)) handle ≡ 0 →
      miscounted 16 m ≡ v →
      repeated (mode_ids (take m modes)) ≡ w →
      (ltb 1024 area || some (bad_record area) (take m modes)) ≡ x →
      ◌≡◌ {A = ℕ} (cond v 4 (cond w 5 (cond x 6 0))) 0 →
      Accepted l sets n modes m area key handle
  modes-by true w x eq es ev ew ex z = absurd (omega arith)
  modes-by false true x eq es ev ew ex z = absurd (omega arith)
  modes-by false false true eq es ev ew ex z = absurd (omega arith)
  modes-by false false false eq es ev ew ex z =
      let k = sets-right l sets n (not (of_length l key)) handle es in
      let b = counted 16 m ev in
      let c = neither (ltb 1024 area) (some (bad_record area) (take m modes)) ex in
      record {
        length-one = eq;
        of-sets = k;
        key_right = right l key k.other-right;
        modes-some = b.0;
        modes-most = b.1;
        mode-ids-once = ew;
        area-most = ltb-false 1024 area c.0;
        records-good = c.1;
      }

  accepted-by : (q : Bool) → not (is_key_length l) ≡ q →
      ◌≡◌ {A = ℕ} (cond q 21 (or_else (sets_refusal l sets n (not (of_length l key)) handle) (modes_refusal modes m area))) 0 →
      Accepted l sets n modes m area key handle
  unfolding modes_refusal
  accepted-by true e z = absurd (omega arith)
  accepted-by false e z =
      let r : ℕ = sets_refusal l sets n (not (of_length l key)) handle in
      let k = neither-number r (modes_refusal modes m area) (eqb r 0) refl z in
      modes-by (miscounted 16 m) (repeated (mode_ids (take m modes))) (ltb 1024 area || some (bad_record area) (take m modes)) (denied (is_key_length l) e) k.0 refl refl refl k.1

  pub accepted : refusal l sets n modes m area key handle ≡ 0 → Accepted l sets n modes m area key handle
  unfolding refusal
  accepted z = accepted-by (not (is_key_length l)) refl z

-- each FAKey counted has L bytes
module _ {l : ℕ} {sets : List KeySet} {n : ℕ} {other : Bool} {handle : ℕ} (k : SetsRight l sets n other handle) where
  pub set-right : (i : ℕ) → i < n → n ≤ length sets → (get_or sets i past_set).fa_key.length ≡ l
  set-right i h g =
      right l (get_or sets i past_set).fa_key
      (ap (λ (s : KeySet). not (of_length l s.fa_key)) (sym (get_or-take n sets i past_set h))
      ∙ some-none (λ (s : KeySet). not (of_length l s.fa_key)) (take n sets) past_set i k.keys-right (omega (arith, length-take-le n sets g)))

-- a key of L bytes has 16 to 32
pub key-within : (l : ℕ) (v : Value) → is_key_length l ≡ true → v.length ≡ l → (16 ≤ v.length) × (v.length ≤ 32)
key-within l v k e = (omega (arith, length-least l k), omega (arith, length_most l k))

-- a key as a card holds it has 32 bytes, of which the first L are the key's
kept-long : (v : Value) → v.length ≤ 32 → length (wide (bytes_of v)) ≡ 32
unfolding held part
kept-long v h = length-wide (bytes_of v) (omega (arith, length-take v.length v.bytes))

pub key-kept : (l : ℕ) (v : Value) → is_key_length l ≡ true → length v.bytes ≡ 32 → v.length ≡ l → held l (wide (bytes_of v)) ≡ bytes_of v
key-kept l v k b e =
    let h = length_most l k in
    held-wide l (bytes_of v) (length-held v.length v.bytes (omega arith) ∙ e)

-- the two answers of a load
module _ (l : ℕ) (sets : List KeySet) (n : ℕ) (modes : List Mode) (m : ℕ) (area div : List ℕ) (key : Value) (handle : ℕ) where
  pub load-made : refusal l sets n modes m (length area) key handle ≡ 0 →
      loaded l sets n modes m area div key handle ≡ record { number = 0; card = loaded_card l (take n sets) (take m modes) area div key handle }
  unfolding loaded
  load-made e = simp (eq-eqb (refusal l sets n modes m (length area) key handle) 0 e)

  pub load-refused : (refusal l sets n modes m (length area) key handle ≡ 0 → ⊥) →
      loaded l sets n modes m area div key handle ≡ record { number = refusal l sets n modes m (length area) key handle; card = blank_card }
  unfolding loaded
  load-refused e = simp (ne_eqb (refusal l sets n modes m (length area) key handle) 0 e)

-- T-01: "Load refusal 7 no longer occurs."
not-seven : (q s k t u v w x : Bool) → ◌≡◌ {A = ℕ} (cond q 21 (or_else (cond s 1 (cond k 22 (cond t 2 (cond u 3 0)))) (cond v 4 (cond w 5 (cond x 6 0))))) 7 → ⊥
not-seven true s k t u v w x z = omega arith
not-seven false true k t u v w x z = omega arith
not-seven false false true t u v w x z = omega arith
not-seven false false false true u v w x z = omega arith
not-seven false false false false true v w x z = omega arith
not-seven false false false false false true w x z = omega arith
not-seven false false false false false false true x z = omega arith
not-seven false false false false false false false true z = omega arith
not-seven false false false false false false false false z = omega arith

-- the number of what is handed back with the card c, or with k where r refuses
pub number-of : (r : ℕ) (c k : Card) (t : Bool) → eqb r 0 ≡ t → (cond {A = Loaded} t (record { number = 0; card = c }) (record { number = r; card = k })).number ≡ r
number-of r c k true e = sym (eqb-true r 0 e)
number-of r c k false e = refl

module _ (l : ℕ) (sets : List KeySet) (n : ℕ) (modes : List Mode) (m : ℕ) (area div : List ℕ) (key : Value) (handle : ℕ) where
  pub load-number : (loaded l sets n modes m area div key handle).number ≡ refusal l sets n modes m (length area) key handle
  unfolding loaded
  load-number =
      number-of (refusal l sets n modes m (length area) key handle) (loaded_card l (take n sets) (take m modes) area div key handle) blank_card
      (eqb (refusal l sets n modes m (length area) key handle) 0) refl

  pub no_seven : (loaded l sets n modes m area div key handle).number ≡ 7 → ⊥
  unfolding refusal sets_refusal modes_refusal
  no_seven q =
      not-seven (not (is_key_length l)) (miscounted 8 n) (wrong_keys l (take n sets) || not (of_length l key)) (repeated (set_ids (take n sets)))
      (with_handle handle (take n sets)) (miscounted 16 m) (repeated (mode_ids (take m modes)))
      (ltb 1024 (length area) || some (bad_record (length area)) (take m modes)) (sym load-number ∙ q)

-- a load looks at the sets counted, and at none where it refuses L or their count
module _ (l : ℕ) (a b : List KeySet) (n : ℕ) (modes : List Mode) (m : ℕ) (area div : List ℕ) (key : Value) (handle : ℕ) where
  counted-by : (s t : Bool) → not (is_key_length l) ≡ s → miscounted 8 n ≡ t → (n ≤ 8 → take n a ≡ take n b) →
      loaded l a n modes m area div key handle ≡ loaded l b n modes m area div key handle
  unfolding loaded refusal sets_refusal
  counted-by true t d e h = simp d
  counted-by false true d e h = simp (d, e)
  counted-by false false d e h = simp (h (counted 8 n e).1)

  pub counted-only : (n ≤ 8 → take n a ≡ take n b) → loaded l a n modes m area div key handle ≡ loaded l b n modes m area div key handle
  counted-only = counted-by (not (is_key_length l)) (miscounted 8 n) refl refl

-- slots that are filled from the first on: how many, which hold what was given, and which are empty
pub length-filled : {A : Type 0} (k : ℕ) (d : A) (l : List A) → length l ≤ k → length (filled k d l) ≡ k
unfolding filled
length-filled k d l h = length-append l (replicate (k - length l) d) ∙ omega (arith, length-replicate (k - length l) d)

pub filled_at : {A : Type 0} (k : ℕ) (d : A) (l : List A) (i : ℕ) → i < length l → get_or (filled k d l) i d ≡ get_or l i d
unfolding filled
filled_at k d l i h = get_or-append l (replicate (k - length l) d) d i h

same_at : {A : Type 0} (n i : ℕ) (d : A) → get_or (replicate n d) i d ≡ d
same_at zero i d = refl
same_at (suc n) zero d = refl
same_at (suc n) (suc i) d = same_at n i d

pub filled-rest : {A : Type 0} (k : ℕ) (d : A) (l : List A) (i : ℕ) → length l ≤ i → get_or (filled k d l) i d ≡ d
unfolding filled
filled-rest k d l i h =
    let e : i ≡ length l + (i - length l) = omega arith in
    ap (λ (j : ℕ). get_or (l ++ replicate (k - length l) d) j d) e
    ∙ get_or-append-add l (replicate (k - length l) d) (i - length l) d
    ∙ same_at (k - length l) (i - length l) d

map_at : {A B : Type 0} (f : A → B) (l : List A) (i : ℕ) (a : A) (b : B) → i < length l → get_or (map f l) i b ≡ f (get_or l i a)
map_at f [] i a b h = absurd (not-suc-le-zero h)
map_at f (x ∷ xs) zero a b h = refl
map_at f (x ∷ xs) (suc i) a b h = map_at f xs i a b (le_of_suc-le-suc h)

-- the slots of a table of key sets, and of a card
abbrev pub slot_at : List KeySetSlot → ℕ → KeySetSlot
slot_at t i = get_or t i no_set

abbrev pub set_at : Card → ℕ → KeySetSlot
set_at c i = slot_at c.sets i

abbrev pub mode_at : Card → ℕ → ModeSlot
mode_at c i = get_or c.modes i no_mode

module _ (sets : List KeySet) where
  pub set-held : (i : ℕ) → i < length sets → slot_at (table_of sets) i ≡ set_slot (get_or sets i past_set)
  unfolding table_of
  set-held i h = filled_at 8 no_set (map set_slot sets) i (omega (arith, length-map sets set_slot)) ∙ map_at set_slot sets i past_set no_set h

  pub set-empty : (i : ℕ) → length sets ≤ i → slot_at (table_of sets) i ≡ no_set
  unfolding table_of
  set-empty i h = filled-rest 8 no_set (map set_slot sets) i (omega (arith, length-map sets set_slot))

module _ (l : ℕ) (sets : List KeySet) (modes : List Mode) (area div : List ℕ) (key : Value) (handle : ℕ) where
  pub mode-held : (i : ℕ) → i < length modes → mode_at (loaded_card l sets modes area div key handle) i ≡ mode_slot (get_or modes i past_mode)
  unfolding loaded_card
  mode-held i h = filled_at 16 no_mode (map mode_slot modes) i (omega (arith, length-map modes mode_slot)) ∙ map_at mode_slot modes i past_mode no_mode h

  pub mode-empty : (i : ℕ) → length modes ≤ i → mode_at (loaded_card l sets modes area div key handle) i ≡ no_mode
  unfolding loaded_card
  mode-empty i h = filled-rest 16 no_mode (map mode_slot modes) i (omega (arith, length-map modes mode_slot))

-- what is true of the slot of a held mode, on a card with reply size B
pub record GoodRecord (s : ModeSlot) (B : ℕ) : Type 0 where
  pub some_bytes : 1 ≤ s.len
  pub most_bytes : s.len ≤ 64
  pub inside : s.start + s.len ≤ 1024
  pub size : reply_size_for s.len ≤ B

-- what a load gives a card, and each command leaves it
pub record Stocked (c : Card) : Type 0 where
  pub sets-long : length c.sets ≡ 8
  pub modes-long : length c.modes ≡ 16
  pub area-long : length c.area ≡ 1024
  pub div-long : length c.div_data ≡ 16
  pub length-one : is_key_length c.key_length ≡ true
  pub key-long : length c.shill_key ≡ 32
  pub fa-long : (i : ℕ) → length (set_at c i).fa_key ≡ 32
  pub size-least : 2 ≤ c.reply_size
  pub size-most : c.reply_size ≤ 6
  pub good : (i : ℕ) → (mode_at c i).held ≡ true → GoodRecord (mode_at c i) c.reply_size
  pub set-once : (i j : ℕ) → i < j → (set_at c i).held ≡ true → (set_at c j).held ≡ true → (set_at c i).id.0 ≡ (set_at c j).id.0 → ⊥
  pub mode-once : (i j : ℕ) → i < j → (mode_at c i).held ≡ true → (mode_at c j).held ≡ true → (mode_at c i).id.0 ≡ (mode_at c j).id.0 → ⊥
  pub handle-other : (i : ℕ) → (set_at c i).held ≡ true → (set_at c i).handle ≡ c.shill_handle → ⊥

pub record IsLoaded (c : Card) : Type 0 where
  pub stocked : Stocked c
  pub no-session : c.session ≡ no_session
  pub no-tries : c.tries ≡ no_tries

-- L of a card is the length that it keeps
pub stocked-length : (c : Card) → Stocked c → key_length_of c ≡ c.key_length
stocked-length c k = sym (lawful-is c.key_length (is_key_length c.key_length) refl k.length-one)

-- a slot that is held was given
mode-held-by : (s : ModeSlot) → s ≡ no_mode → s.held ≡ true → ⊥
mode-held-by s e h = let z : ◌≡◌ {A = ℕ} 0 1 = cc in omega arith

set-held-by : (s : KeySetSlot) → s ≡ no_set → s.held ≡ true → ⊥
set-held-by s e h = let z : ◌≡◌ {A = ℕ} 0 1 = cc in omega arith

good-by : (m : Mode) (area B : ℕ) → bad_record area m ≡ false → area ≤ 1024 → reply_size_for m.len ≤ B → GoodRecord (mode_slot m) B
good-by m area B e h q =
    let x = neither (eqb m.len 0) (ltb 64 m.len || ltb area (m.start + m.len)) e in
    let y = neither (ltb 64 m.len) (ltb area (m.start + m.len)) x.1 in
    let z = eqb-false m.len 0 x.0 in
    let u = ltb-false 64 m.len y.0 in
    let v = ltb-false area (m.start + m.len) y.1 in
    record { some_bytes = omega arith; most_bytes = u; inside = omega arith; size = q }

-- what is true of a table that the checks of key sets let pass
pub record Tabled (t : List KeySetSlot) (handle : ℕ) : Type 0 where
  pub sets-long : length t ≡ 8
  pub fa-long : (i : ℕ) → length (slot_at t i).fa_key ≡ 32
  pub set-once : (i j : ℕ) → i < j → (slot_at t i).held ≡ true → (slot_at t j).held ≡ true → (slot_at t i).id.0 ≡ (slot_at t j).id.0 → ⊥
  pub handle-other : (i : ℕ) → (slot_at t i).held ≡ true → (slot_at t i).handle ≡ handle → ⊥

module _ (sets : List KeySet) where
  set-given-by : (i : ℕ) (t : Bool) → ltb i (length sets) ≡ t → (slot_at (table_of sets) i).held ≡ true → i < length sets
  set-given-by i true e h = ltb-true i (length sets) e
  set-given-by i false e h = absurd (set-held-by _ (set-empty sets i (ltb-false i (length sets) e)) h)

  pub set_given : (i : ℕ) → (slot_at (table_of sets) i).held ≡ true → i < length sets
  set_given i h = set-given-by i (ltb i (length sets)) refl h

  set-id : (i : ℕ) → i < length sets → (slot_at (table_of sets) i).id.0 ≡ get_or (set_ids sets) i 0
  set-id i h = ap (λ (s : KeySetSlot). s.id.0) (set-held sets i h) ∙ sym (get_or-map (λ (x : KeySet). x.id.0) sets i past_set)

  fa-by : (i : ℕ) (t : Bool) → ltb i (length sets) ≡ t → ((j : ℕ) → j < length sets → (get_or sets j past_set).fa_key.length ≤ 32) →
      length (slot_at (table_of sets) i).fa_key ≡ 32
  fa-by i true e f =
      let h = ltb-true i (length sets) e in
      ap (λ (s : KeySetSlot). length s.fa_key) (set-held sets i h) ∙ kept-long (get_or sets i past_set).fa_key (f i h)
  fa-by i false e f = ap (λ (s : KeySetSlot). length s.fa_key) (set-empty sets i (ltb-false i (length sets) e))

  once_by : (i j : ℕ) → repeated (set_ids sets) ≡ false → i < j → i < length sets → j < length sets → (slot_at (table_of sets) i).id.0 ≡ (slot_at (table_of sets) j).id.0 → ⊥
  once_by i j e h p q z =
      repeated-none (set_ids sets) i j e h (omega (arith, length-map sets (λ (x : KeySet). x.id.0))) (sym (set-id i p) ∙ z ∙ set-id j q)

  handle-by : (handle i : ℕ) → with_handle handle sets ≡ false → i < length sets → (slot_at (table_of sets) i).handle ≡ handle → ⊥
  handle-by handle i e h z =
      eqb-false (get_or sets i past_set).handle handle (some-none (λ (x : KeySet). eqb x.handle handle) sets past_set i e h)
      (sym (ap (λ (s : KeySetSlot). s.handle) (set-held sets i h)) ∙ z)

-- the table of sets that pass
pub tabled : {l : ℕ} {sets : List KeySet} {n : ℕ} {other : Bool} {handle : ℕ} → SetsRight l sets n other handle → is_key_length l ≡ true → n ≤ length sets →
    Tabled (table_of (take n sets)) handle
unfolding table_of
tabled {l} {sets} {n} {other} {handle} k one ls =
    let s : List KeySet = take n sets in
    let hs : length s ≡ n = length-take-le n sets ls in
    record {
      sets-long = length-filled 8 no_set (map set_slot s) (omega (arith, length-map s set_slot, k.sets-most));
      fa-long =
          λ i. fa-by s i (ltb i (length s)) refl
          (λ j h. omega (arith, length_most l one, ap (λ (x : KeySet). x.fa_key.length) (get_or-take n sets j past_set (omega arith)), set-right k j (omega arith) ls));
      set-once = λ i j h p q. once_by s i j k.ids-once h (set_given s i p) (set_given s j q);
      handle-other = λ i h. handle-by s handle i k.handles-other (set_given s i h);
    }

module _ (l : ℕ) (sets : List KeySet) (modes : List Mode) (area div : List ℕ) (key : Value) (handle : ℕ) where
  mode-given-by : (i : ℕ) (t : Bool) → ltb i (length modes) ≡ t → (mode_at (loaded_card l sets modes area div key handle) i).held ≡ true → i < length modes
  mode-given-by i true e h = ltb-true i (length modes) e
  mode-given-by i false e h = absurd (mode-held-by _ (mode-empty l sets modes area div key handle i (ltb-false i (length modes) e)) h)

  pub mode-given : (i : ℕ) → (mode_at (loaded_card l sets modes area div key handle) i).held ≡ true → i < length modes
  mode-given i h = mode-given-by i (ltb i (length modes)) refl h

  mode-id : (i : ℕ) → i < length modes → (mode_at (loaded_card l sets modes area div key handle) i).id.0 ≡ get_or (mode_ids modes) i 0
  mode-id i h =
      ap (λ (s : ModeSlot). s.id.0) (mode-held l sets modes area div key handle i h) ∙ sym (get_or-map (λ (x : Mode). x.id.0) modes i past_mode)

  mode-once-by : (i j : ℕ) → repeated (mode_ids modes) ≡ false → i < j → i < length modes → j < length modes →
      (mode_at (loaded_card l sets modes area div key handle) i).id.0 ≡ (mode_at (loaded_card l sets modes area div key handle) j).id.0 → ⊥
  mode-once-by i j e h p q z =
      repeated-none (mode_ids modes) i j e h (omega (arith, length-map modes (λ (x : Mode). x.id.0))) (sym (mode-id i p) ∙ z ∙ mode-id j q)

  record-good : (i : ℕ) → some (bad_record (length area)) modes ≡ false → length area ≤ 1024 → i < length modes →
      GoodRecord (mode_slot (get_or modes i past_mode)) (largest_size modes)
  record-good i r a h =
      good-by (get_or modes i past_mode) (length area) (largest_size modes) (some-none (bad_record (length area)) modes past_mode i r h) a (size-each modes i h)

  mode-good : (i : ℕ) → some (bad_record (length area)) modes ≡ false → length area ≤ 1024 → i < length modes →
      GoodRecord (mode_at (loaded_card l sets modes area div key handle) i) (largest_size modes)
  mode-good i r a h =
      subst (λ (s : ModeSlot). GoodRecord s (largest_size modes)) (sym (mode-held l sets modes area div key handle i h)) (record-good i r a h)

-- a load that is not refused makes a loaded card. The lengths are those that the types of its inputs say, and there are as many sets as are counted
pub is-loaded : (l : ℕ) (sets : List KeySet) (n : ℕ) (modes : List Mode) (m : ℕ) (area div : List ℕ) (key : Value) (handle : ℕ) →
    refusal l sets n modes m (length area) key handle ≡ 0 →
    n ≤ length sets →
    length modes ≡ 16 →
    length div ≡ 16 →
    IsLoaded (loaded_card l (take n sets) (take m modes) area div key handle)
unfolding loaded_card
is-loaded l sets n modes m area div key handle z ls lm ld =
    let k = accepted l sets n modes m (length area) key handle z in
    let s : List KeySet = take n sets in
    let t : List Mode = take m modes in
    let table = tabled k.of-sets k.length-one ls in
    let ht : length t ≡ m = length-take-le m modes (omega (arith, k.modes-most)) in
    let hl : l ≤ 32 = length_most l k.length-one in
    let g : (i : ℕ) → i < length t → GoodRecord (mode_slot (get_or t i past_mode)) (largest_size t) = λ i h. record-good l s t area div key handle i k.records-good k.area-most h in
    record {
      stocked =
          record {
            sets-long = table.sets-long;
            modes-long = length-filled 16 no_mode (map mode_slot t) (omega (arith, length-map t mode_slot, k.modes-most));
            area-long = length-filled 1024 0 area k.area-most;
            div-long = ld;
            length-one = k.length-one;
            key-long = kept-long key (omega (arith, k.key_right));
            fa-long = table.fa-long;
            size-least = omega (arith, (g 0 (omega (arith, k.modes-some))).size);
            size-most = size_below t 6 (λ i h. omega (arith, (g i h).most_bytes));
            good = λ i h. mode-good l s t area div key handle i k.records-good k.area-most (mode-given l s t area div key handle i h);
            set-once = table.set-once;
            mode-once = λ i j h p q. mode-once-by l s t area div key handle i j k.mode-ids-once h (mode-given l s t area div key handle i p) (mode-given l s t area div key handle j q);
            handle-other = table.handle-other;
          };
      no-session = refl;
      no-tries = refl;
    }

-- T-04: what the table holds, at L, are the keys that were given
pub set-kept : {l : ℕ} {sets : List KeySet} {n : ℕ} {other : Bool} {handle : ℕ} → SetsRight l sets n other handle → is_key_length l ≡ true → n ≤ length sets →
    (i : ℕ) → i < n → length (get_or sets i past_set).fa_key.bytes ≡ 32 → held l (slot_at (table_of (take n sets)) i).fa_key ≡ bytes_of (get_or sets i past_set).fa_key
set-kept {l} {sets} {n} k one ls i h b =
    ap (λ (s : KeySetSlot). held l s.fa_key) (set-held (take n sets) i (omega (arith, length-take-le n sets ls)))
    ∙ ap (λ (s : KeySet). held l (set_slot s).fa_key) (get_or-take n sets i past_set h)
    ∙ key-kept l (get_or sets i past_set).fa_key one b (set-right k i h ls)

-- another state leaves all but the session and the failed tries
pub stocked-state : (c : Card) (s : Session) (t : Tries) → Stocked c → Stocked (with_tries (with_session c s) t)
stocked-state c s t k =
    record {
      sets-long = k.sets-long;
      modes-long = k.modes-long;
      area-long = k.area-long;
      div-long = k.div-long;
      length-one = k.length-one;
      key-long = k.key-long;
      fa-long = k.fa-long;
      size-least = k.size-least;
      size-most = k.size-most;
      good = k.good;
      set-once = k.set-once;
      mode-once = k.mode-once;
      handle-other = k.handle-other;
    }

-- T-07: and so does another table that the checks let pass, but for the table
pub stocked-sets : (c : Card) (t : List KeySetSlot) → Stocked c → Tabled t c.shill_handle → Stocked (with_sets c t)
stocked-sets c t k g =
    record {
      sets-long = g.sets-long;
      modes-long = k.modes-long;
      area-long = k.area-long;
      div-long = k.div-long;
      length-one = k.length-one;
      key-long = k.key-long;
      fa-long = g.fa-long;
      size-least = k.size-least;
      size-most = k.size-most;
      good = k.good;
      set-once = g.set-once;
      mode-once = k.mode-once;
      handle-other = g.handle-other;
    }
