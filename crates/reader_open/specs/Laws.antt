-- Laws of Open: the first block that opens wins, 15 is given exactly where none opens, and a block that opens has the encryption form of PKCS #1
-- v1.5. Assumes nothing.
use Rattle.std.specs.Prelude.{◌≡◌, refl, Bool, true, false, cond, ◌||◌, eqb, length, drop}
use Rattle.std.proofs.Common.{sym, ap₂, ◌∙◌, true≢false, not-suc-le-zero, le_of_suc-le-suc, add-zero, zero-add, suc-add, add-suc, arith, take-append-drop, length-drop, drop-cons, drop-drop, drop_at, get_or-take, length-take-le}
use Rattle.std.proofs.Math.Path.{ap, subst}
use Rattle.std.proofs.Math.Bool.{not, and-eq-true_iff}
use mathlib.Core.List.{List, [], ◌∷◌, ◌++◌, append_assoc}
use Prim.Native.Nat.{ℕ, zero, suc, ◌+◌, ◌-◌, ◌*◌, ◌<◌, ◌≤◌}
use borrow.Author.Tests.{eqb-true, eqb-false, eq-eqb, ne_eqb, le-ltb}
use Rattle.std.proofs.Math.ListN.{get_or, take, length-append}
use Rattle.std.proofs.Math.Seq.{take_all, take_at}
use Rattle.std.proofs.lemmas.List.{get_or_at}
use Rattle.octets.specs.Lists.{part, length_part}
use Rattle.key_expansion.specs.KeyLength.{is_key_length}
use Rattle.frame.specs.Declines.{no_zero}
use Rattle.load.specs.Load.{miscounted}
use Rattle.plaid_types.specs.Keys.{str1_length}
use Rattle.plaid_types.specs.KeyLaws.{str1-most}
use Rattle.plaid_types.specs.declared.KeySetId.{KeySetId}
use Rattle.reader_open.specs.Open.{formed, text_of, opens_as, block_at, first_open, winner, open_number, no_id, opened}

-- whether the block of the entry at place i of ids opens; the blocks are counted from j
abbrev opens_at : ℕ → List ℕ → ℕ → List KeySetId → ℕ → Bool
opens_at l blocks j ids i = opens_as l (get_or ids i no_id) (block_at blocks (j + i))

-- what the search finds: the first that opens, or that none does
data Search (l : ℕ) (blocks : List ℕ) (j : ℕ) (ids : List KeySetId) : Type 0 where
  wins : (i : ℕ) → i < length ids → opens_at l blocks j ids i ≡ true → ((m : ℕ) → m < i → opens_at l blocks j ids m ≡ false) → first_open l blocks j ids ≡ j + i → Search l blocks j ids
  none : ((m : ℕ) → m < length ids → opens_at l blocks j ids m ≡ false) → first_open l blocks j ids ≡ j + length ids → Search l blocks j ids

module _ (l : ℕ) (blocks : List ℕ) where
  -- the entry in front of those from place suc j on
  behind : (j : ℕ) (k : KeySetId) (ids : List KeySetId) (n : ℕ) → opens_as l k (block_at blocks j) ≡ false →
      ((m : ℕ) → m < n → opens_at l blocks (suc j) ids m ≡ false) → (m : ℕ) → m < suc n → opens_at l blocks j (k ∷ ids) m ≡ false
  behind j k ids n e f zero h = ap (λ (x : ℕ). opens_as l k (block_at blocks x)) (add-zero j) ∙ e
  behind j k ids n e f (suc m) h =
      ap (λ (x : ℕ). opens_as l (get_or ids m no_id) (block_at blocks x)) (add-suc j m ∙ sym (suc-add j m)) ∙ f m (le_of_suc-le-suc h)

  search-on : (j : ℕ) (k : KeySetId) (ids : List KeySetId) → opens_as l k (block_at blocks j) ≡ false → Search l blocks (suc j) ids → Search l blocks j (k ∷ ids)
  search-on j k ids e (wins i h o f q) =
      wins (suc i) (omega arith) (ap (λ (x : ℕ). opens_as l (get_or ids i no_id) (block_at blocks x)) (add-suc j i ∙ sym (suc-add j i)) ∙ o)
      (behind j k ids i e f)
      (simp e (q ∙ omega arith))
  search-on j k ids e (none f q) = none (behind j k ids (length ids) e f) (simp e (q ∙ omega arith))

  search-by : (j : ℕ) (k : KeySetId) (ids : List KeySetId) (t : Bool) → opens_as l k (block_at blocks j) ≡ t → Search l blocks (suc j) ids → Search l blocks j (k ∷ ids)
  search-by j k ids true e s =
      wins 0 (omega arith) (ap (λ (x : ℕ). opens_as l k (block_at blocks x)) (add-zero j) ∙ e) (λ m h. absurd (not-suc-le-zero h)) (simp e (sym (add-zero j)))
  search-by j k ids false e s = search-on j k ids e s

  searched : (j : ℕ) (ids : List KeySetId) → Search l blocks j ids
  searched j [] = none (λ m h. absurd (not-suc-le-zero h)) (sym (add-zero j))
  searched j (k ∷ ids) = search-by j k ids (opens_as l k (block_at blocks j)) refl (searched (suc j) ids)

-- whether the block of entry i opens
abbrev pub opens_entry : ℕ → List KeySetId → List ℕ → ℕ → Bool
opens_entry l ids blocks i = opens_as l (get_or ids i no_id) (block_at blocks i)

-- the first to open of n entries
pub record Wins (l : ℕ) (ids : List KeySetId) (n : ℕ) (blocks : List ℕ) (i : ℕ) : Type 0 where
  pub listed : i < n
  pub opens : opens_entry l ids blocks i ≡ true
  pub earlier : (m : ℕ) → m < i → opens_entry l ids blocks m ≡ false

pub data Winner (l : ℕ) (ids : List KeySetId) (n : ℕ) (blocks : List ℕ) : Type 0 where
  won : Wins l ids n blocks (winner l ids n blocks) → Winner l ids n blocks
  lost : ((m : ℕ) → m < n → opens_entry l ids blocks m ≡ false) → winner l ids n blocks ≡ n → Winner l ids n blocks

module _ (l : ℕ) (ids : List KeySetId) (n : ℕ) (blocks : List ℕ) (fits : n ≤ length ids) where
  same-entry : (i : ℕ) → i < n → opens_entry l ids blocks i ≡ opens_at l blocks 0 (take n ids) i
  same-entry i h = sym (ap₂ (λ (k : KeySetId) (j : ℕ). opens_as l k (block_at blocks j)) (get_or-take n ids i no_id h) (zero-add i))

  case-by : Search l blocks 0 (take n ids) → Winner l ids n blocks
  case-by (wins i h o f q) =
      let taken = length-take-le n ids fits in
      let e : winner l ids n blocks ≡ i = q ∙ zero-add i in
      won (subst (Wins l ids n blocks) (sym e) (record { listed = omega arith; opens = same-entry i (omega arith) ∙ o; earlier = λ m k. same-entry m (omega arith) ∙ f m k }))
  case-by (none f q) =
      let taken = length-take-le n ids fits in
      lost (λ m h. same-entry m h ∙ f m (omega arith)) (omega arith)

  pub winner-case : Winner l ids n blocks
  winner-case = case-by (searched l blocks 0 (take n ids))

  at-most-by : Winner l ids n blocks → winner l ids n blocks ≤ n
  at-most-by (won w) = omega (arith, w.listed)
  at-most-by (lost f q) = omega arith

  pub winner-at-most : winner l ids n blocks ≤ n
  winner-at-most = at-most-by winner-case

  -- "15 no block opens": for a key length l, k from 1 to 16 and a total of 256k, 15 is given exactly where no block opens
  module _ (of_three : is_key_length l ≡ true) (some-entries : 1 ≤ n) (most : n ≤ 16) (total : length blocks ≡ 256 * n) where
    in-range : open_number l ids n blocks ≡ cond (eqb (winner l ids n blocks) n) 15 0
    unfolding open_number
    in-range = simp (of_three, ne_eqb n 0 (λ z. omega arith), le-ltb 16 n most, eq-eqb (length blocks) (256 * n) total)

    none-by : Winner l ids n blocks → ◌≡◌ {A = ℕ} (cond (eqb (winner l ids n blocks) n) 15 0) 15 → (m : ℕ) → m < n → opens_entry l ids blocks m ≡ false
    none-by (won w) e = absurd (let z = rw (ne_eqb (winner l ids n blocks) n (λ q. omega (arith, w.listed))) at e in omega arith)
    none-by (lost f q) e = f

    fifteen-by : Winner l ids n blocks → ((m : ℕ) → m < n → opens_entry l ids blocks m ≡ false) → ◌≡◌ {A = ℕ} (cond (eqb (winner l ids n blocks) n) 15 0) 15
    fifteen-by (won w) f = absurd (true≢false (sym w.opens ∙ f (winner l ids n blocks) w.listed))
    fifteen-by (lost g q) f = simp (eq-eqb (winner l ids n blocks) n q)

    pub fifteen-none : open_number l ids n blocks ≡ 15 → (m : ℕ) → m < n → opens_entry l ids blocks m ≡ false
    fifteen-none e = none-by winner-case (sym in-range ∙ e)

    pub none-fifteen : ((m : ℕ) → m < n → opens_entry l ids blocks m ≡ false) → open_number l ids n blocks ≡ 15
    none-fifteen f = in-range ∙ fifteen-by winner-case f

  -- "First to open wins": where nothing is declined, the place handed back is that of the first block to open
  number_by : (k a b : Bool) → ◌≡◌ {A = ℕ} (cond (not k) 21 (cond a 14 (cond b 15 0))) 0 → b ≡ false
  number_by false a b e = absurd (omega arith)
  number_by true true b e = absurd (omega arith)
  number_by true false true e = absurd (omega arith)
  number_by true false false e = refl

  first_by : Winner l ids n blocks → eqb (winner l ids n blocks) n ≡ false → Wins l ids n blocks (winner l ids n blocks)
  first_by (won w) e = w
  first_by (lost f q) e = absurd (eqb-false (winner l ids n blocks) n e q)

  place_is : open_number l ids n blocks ≡ 0 → (opened l ids n blocks).place ≡ winner l ids n blocks
  unfolding opened
  place_is e = simp e

  pub first-wins : open_number l ids n blocks ≡ 0 → Wins l ids n blocks (opened l ids n blocks).place
  unfolding open_number
  first-wins e =
      subst (Wins l ids n blocks) (sym (place_is e))
      (first_by winner-case (number_by (is_key_length l) (miscounted 16 n || not (eqb (length blocks) (256 * n))) (eqb (winner l ids n blocks) n) e))

-- the encryption form of PKCS #1 v1.5 (EM = 00 02 PS 00 M) with an M as long as STR1, and a PS of the other nonzero bytes
pub record Encrypted (l : ℕ) (b ps m : List ℕ) : Type 0 where
  pub is : b ≡ 0 ∷ 2 ∷ (ps ++ (0 ∷ m))
  pub nonzero : no_zero ps ≡ true
  pub ps-long : length ps ≡ 253 - str1_length l
  pub m-long : length m ≡ str1_length l

-- a list by its parts: two elements, n, one, and m
parts : (l : List ℕ) (n m : ℕ) → length l ≡ 3 + n + m → l ≡ get_or l 0 0 ∷ get_or l 1 0 ∷ (part l 2 n ++ (get_or l (2 + n) 0 ∷ part l (3 + n) m))
unfolding part
parts l n m h =
    drop-cons l 0 0 (omega arith)
    ∙ ap (λ (t : List ℕ). get_or l 0 0 ∷ t) (drop-cons l 1 0 (omega arith)
    ∙ ap (λ (t : List ℕ). get_or l 1 0 ∷ t) (sym (take-append-drop n (drop 2 l))
    ∙ ap (λ (t : List ℕ). take n (drop 2 l) ++ t) (drop-drop n 2 l
    ∙ drop-cons l (2 + n) 0 (omega arith)
    ∙ ap₂ (λ (x : ℕ) (t : List ℕ). x ∷ t) refl (ap (λ (k : ℕ). drop k l) e ∙ sym (take_all m (drop (3 + n) l) (omega (arith, length-drop (3 + n) l)))))))
  where
    e : suc (2 + n) ≡ 3 + n
    e = omega arith

-- and the other way, where PS has n bytes and M has k
module _ (ps m : List ℕ) (n k : ℕ) (ln : length ps ≡ n) (lk : length m ≡ k) where
  ps-at : part (0 ∷ 2 ∷ (ps ++ (0 ∷ m))) 2 n ≡ ps
  unfolding part
  ps-at = take_at ps (0 ∷ m) n ln

  zero-at : get_or (0 ∷ 2 ∷ (ps ++ (0 ∷ m))) (2 + n) 0 ≡ 0
  zero-at = get_or_at (0 ∷ 2 ∷ ps) 0 m 0 (2 + n) (omega arith)

  m-at : part (0 ∷ 2 ∷ (ps ++ (0 ∷ m))) (3 + n) k ≡ m
  unfolding part
  m-at =
      let h : List ℕ = 0 ∷ 2 ∷ (ps ++ (0 ∷ [])) in
      ap (λ (l : List ℕ). take k (drop (3 + n) (0 ∷ 2 ∷ l))) (sym (append_assoc ps (0 ∷ []) m))
      ∙ ap (take k) (drop_at h m (3 + n) (omega (arith, length-append ps (0 ∷ []))))
      ∙ take_all k m (omega arith)

module _ (l : ℕ) (h : l ≤ 32) where
  -- where the 00 behind PS stands, and M
  zero-place : 2 + (253 - str1_length l) ≡ 255 - str1_length l
  zero-place = omega (arith, str1-most l h)

  text-place : 3 + (253 - str1_length l) ≡ 256 - str1_length l
  text-place = omega (arith, str1-most l h)

  pub text-long : (b : List ℕ) → length b ≡ 256 → length (text_of l b) ≡ str1_length l
  text-long b lb = length_part b (256 - str1_length l) (str1_length l) (omega (arith, str1-most l h))

  block-parts : (b : List ℕ) → length b ≡ 256 →
      b ≡ get_or b 0 0 ∷ get_or b 1 0 ∷ (part b 2 (253 - str1_length l) ++ (get_or b (255 - str1_length l) 0 ∷ text_of l b))
  block-parts b lb =
      parts b (253 - str1_length l) (str1_length l) (omega (arith, str1-most l h))
      ∙ ap₂ (λ (z t : ℕ). get_or b 0 0 ∷ get_or b 1 0 ∷ (part b 2 (253 - str1_length l) ++ (get_or b z 0 ∷ part b t (str1_length l)))) zero-place text-place

  pub opens-form : (id : KeySetId) (b : List ℕ) → length b ≡ 256 → opens_as l id b ≡ true → Encrypted l b (part b 2 (253 - str1_length l)) (text_of l b)
  unfolding opens_as formed
  opens-form id b lb e =
      let f = (and-eq-true_iff _ _).0 ((and-eq-true_iff _ _).0 e).0 in
      let g = (and-eq-true_iff _ _).0 f.1 in
      let k = (and-eq-true_iff _ _).0 g.1 in
      let ps : List ℕ = part b 2 (253 - str1_length l) in
      record {
        is =
            block-parts b lb
            ∙ ap (λ (x : ℕ). x ∷ get_or b 1 0 ∷ (ps ++ (get_or b (255 - str1_length l) 0 ∷ text_of l b))) (eqb-true (get_or b 0 0) 0 f.0)
            ∙ ap (λ (x : ℕ). 0 ∷ x ∷ (ps ++ (get_or b (255 - str1_length l) 0 ∷ text_of l b))) (eqb-true (get_or b 1 0) 2 g.0)
            ∙ ap (λ (x : ℕ). 0 ∷ 2 ∷ (ps ++ (x ∷ text_of l b))) (eqb-true (get_or b (255 - str1_length l) 0) 0 k.1);
        nonzero = k.0;
        ps-long = length_part b 2 (253 - str1_length l) (omega arith);
        m-long = text-long b lb;
      }

  -- the other way: a block of that form is formed, and its text is M
  pub form-formed : {b ps m : List ℕ} → Encrypted l b ps m → formed l b ≡ true
  unfolding formed
  form-formed {b} {ps} {m} e =
      let n : ℕ = 253 - str1_length l in
      let z : get_or (0 ∷ 2 ∷ (ps ++ (0 ∷ m))) (255 - str1_length l) 0 ≡ 0 =
      ap (λ (k : ℕ). get_or (0 ∷ 2 ∷ (ps ++ (0 ∷ m))) k 0) (sym zero-place) ∙ zero-at ps m n (str1_length l) e.ps-long e.m-long in
      rw e.is (simp (ps-at ps m n (str1_length l) e.ps-long e.m-long, e.nonzero, z))

  pub form-text : {b ps m : List ℕ} → Encrypted l b ps m → text_of l b ≡ m
  form-text {b} {ps} {m} e =
      rw e.is (ap (λ (k : ℕ). part (0 ∷ 2 ∷ (ps ++ (0 ∷ m))) k (str1_length l)) (sym text-place) ∙ m-at ps m (253 - str1_length l) (str1_length l) e.ps-long e.m-long)
