-- The rows that the key schedule fills: where it begins, a row more, and where all are there. Assumes nothing.
use Rattle.std.specs.Prelude.{◌≡◌, refl, Bool, true, false, List, [], ℕ, zero, suc, ◌+◌, ◌-◌, ◌*◌, ◌<◌, ◌≤◌, ltb, length, get_or, set, replicate}
use Rattle.std.proofs.Common.{sym, ap, subst, ◌∙◌, ⊎_elim, eq-or-lt_of_le, zero-add, arith, ltb-true, ltb-false, length-set, length-append, get_or-set_same, get_or-set_other, get_or-append-add}
use Rattle.std.proofs.lemmas.List.{length-replicate, get_or-replicate}
use Rattle.std.proofs.Math.ListN.{get_or-append}
use Rattle.octets.specs.Lists.{part, get_or-part, length-table, get_or-table, table-ext, tabled}
use Rattle.column.specs.Word.{byte_at}
use Rattle.rounds.specs.declared.Columns.{Columns}
use Rattle.rounds.specs.Columns.{state_of}
use Rattle.key_expansion.specs.KeyLength.{is_key_length, length_most, each-nk}
use Rattle.key_expansion.specs.KeyExpansion.{power, key_expansion, round_key, round_keys}
use Rattle.key_expansion.specs.Words.{word_at, word-key}
use Rattle.key_expansion.specs.Schedule.{bytes_in, place, Next, source_of, row_of, earlier_of, first_row, constant_after, fifteen}
use Rattle.key_expansion.specs.WordLaws.{four}
use Rattle.key_expansion.specs.Turns.{Four, word_of, Before, row-of, turned, then_by}

-- sixteen bytes of the key are four of its words
pub key-words : (nk : ℕ) (key : List ℕ) (s : Columns) (i : ℕ) → i + 4 ≤ nk → state_of s ≡ part key (4 * i) 16 → Four nk key s i
key-words nk key s i h e =
    record {
      zeroth = let z : i + 0 ≡ i = omega arith in word-is 0 s.c0 (omega arith) (at 0 (omega arith)) (at 1 (omega arith)) (at 2 (omega arith)) (at 3 (omega arith)) ∙ ap (word_at nk key) z;
      first = word-is 1 s.c1 (omega arith) (at 4 (omega arith)) (at 5 (omega arith)) (at 6 (omega arith)) (at 7 (omega arith));
      second = word-is 2 s.c2 (omega arith) (at 8 (omega arith)) (at 9 (omega arith)) (at 10 (omega arith)) (at 11 (omega arith));
      third = word-is 3 s.c3 (omega arith) (at 12 (omega arith)) (at 13 (omega arith)) (at 14 (omega arith)) (at 15 (omega arith));
    }
  where
    at : (k : ℕ) → k < 16 → get_or (state_of s) k 0 ≡ get_or key (4 * i + k) 0
    at k l = ap (λ (t : List ℕ). get_or t k 0) e ∙ get_or-part key (4 * i) 16 k 0 l

    word-is : (k w : ℕ) → k < 4 → byte_at w 0 ≡ get_or key (4 * i + 4 * k) 0 → byte_at w 1 ≡ get_or key (4 * i + (4 * k + 1)) 0 → byte_at w 2 ≡ get_or key (4 * i + (4 * k + 2)) 0 → byte_at w 3 ≡ get_or key (4 * i + (4 * k + 3)) 0 → bytes_in w ≡ word_at nk key (i + k)
    word-is k w l p q r t =
        let by : (b : ℕ) → get_or key (4 * i + (4 * k + b)) 0 ≡ get_or key (4 * (i + k) + b) 0 = λ b. let z : 4 * i + (4 * k + b) ≡ 4 * (i + k) + b = omega arith in ap (λ (n : ℕ). get_or key n 0) z in
        let none : 4 * k ≡ 4 * k + 0 = omega arith in
        four (p ∙ ap (λ (n : ℕ). get_or key (4 * i + n) 0) none ∙ by 0) (q ∙ by 1) (r ∙ by 2) (t ∙ by 3) ∙ sym (word-key nk key (i + k) (omega arith))

-- before the first row that is made
pub begins : (nk : ℕ) → is_key_length (4 * nk) ≡ true → (key : List ℕ) (first end : Columns) → Four nk key first 0 → Four nk key end (nk - 4) → Before nk key (earlier_of nk first) end 0 1 (first_row nk)
unfolding power
begins nk kl = each-nk (λ (n : ℕ). (key : List ℕ) (first end : Columns) → Four n key first 0 → Four n key end (n - 4) → Before n key (earlier_of n first) end 0 1 (first_row n)) nk kl four-words six eight
  where
    four-words : (key : List ℕ) (first end : Columns) → Four 4 key first 0 → Four 4 key end (4 - 4) → Before 4 key (earlier_of 4 first) end 0 1 (first_row 4)
    four-words key first end f g = record { source = g; last = g; place = refl; below = omega arith; constant = refl }

    six : (key : List ℕ) (first end : Columns) → Four 6 key first 0 → Four 6 key end (6 - 4) → Before 6 key (earlier_of 6 first) end 0 1 (first_row 6)
    six key first end f g = record { source = record { zeroth = f.zeroth; first = f.first; second = g.zeroth; third = g.first }; last = g; place = refl; below = omega arith; constant = refl }

    eight : (key : List ℕ) (first end : Columns) → Four 8 key first 0 → Four 8 key end (8 - 4) → Before 8 key (earlier_of 8 first) end 0 1 (first_row 8)
    eight key first end f g = record { source = f; last = g; place = refl; below = omega arith; constant = refl }

-- rows below i are the round keys, and the others as they were
pub record Rows (nk : ℕ) (key : List ℕ) (w₀ w : List (List ℕ)) (i : ℕ) : Type 0 where
  pub long : length w ≡ length w₀
  pub done : (k : ℕ) → k < i → get_or w k [] ≡ round_key (key_expansion nk key) k
  pub rest : (k : ℕ) → i ≤ k → get_or w k [] ≡ get_or w₀ k []

pub rows_more : {nk : ℕ} {key : List ℕ} {w₀ w : List (List ℕ)} {i : ℕ} {v : List ℕ} → Rows nk key w₀ w i → i < length w₀ → v ≡ round_key (key_expansion nk key) i → Rows nk key w₀ (set w i v) (i + 1)
rows_more {nk} {key} {w₀} {w} {i} {v} q h e =
    record {
      long = length-set w i v ∙ q.long;
      done =
          λ k l.
          ⊎_elim (λ (p : k ≡ i). rw p (get_or-set_same w i v [] (omega (arith, q.long)) ∙ e))
          (λ (p : k < i). get_or-set_other w i k v [] (λ z. omega arith) ∙ q.done k p)
          (eq-or-lt_of_le (omega arith));
      rest = λ k l. get_or-set_other w i k v [] (λ z. omega arith) ∙ q.rest k (omega arith);
    }

-- two lists of one length with the same elements
alike : (n : ℕ) (a b : List (List ℕ)) → length a ≡ n → length b ≡ n → ((k : ℕ) → k < n → get_or a k [] ≡ get_or b k []) → a ≡ b
alike n a b la lb h =
    tabled (λ k. get_or a k []) n 0 a [] (omega (arith, la)) (λ k _. refl)
    ∙ table-ext (λ k. get_or a k []) (λ k. get_or b k []) n 0 (λ k _ l. h k (omega arith))
    ∙ sym (tabled (λ k. get_or b k []) n 0 b [] (omega (arith, lb)) (λ k _. refl))

pub length-round_keys : (nk : ℕ) (key : List ℕ) → length (round_keys nk key) ≡ nk + 7
length-round_keys nk key = length-table (round_key (key_expansion nk key)) (nk + 7) 0

pub rows_all : (nk : ℕ) (key : List ℕ) (w₀ w : List (List ℕ)) → is_key_length (4 * nk) ≡ true → length w₀ ≡ 15 → ((k : ℕ) → nk + 7 ≤ k → k < 15 → get_or w₀ k [] ≡ replicate 16 0) → Rows nk key w₀ w (nk + 7) → w ≡ fifteen nk key
rows_all nk key w₀ w kl l h q = alike 15 w (fifteen nk key) (q.long ∙ l) long same
  where
    keys : List (List ℕ)
    keys = round_keys nk key

    row : List ℕ
    row = replicate 16 0

    most : nk ≤ 8
    most = omega (arith, length_most (4 * nk) kl)

    long : length (fifteen nk key) ≡ 15
    long = length-append keys (replicate (8 - nk) row) ∙ omega (arith, length-round_keys nk key, length-replicate (8 - nk) row, most)

    same : (k : ℕ) → k < 15 → get_or w k [] ≡ get_or (fifteen nk key) k []
    same k d = by (ltb k (nk + 7)) refl
      where
        by : (t : Bool) → ltb k (nk + 7) ≡ t → get_or w k [] ≡ get_or (fifteen nk key) k []
        by true e =
            let b : k < nk + 7 = ltb-true k (nk + 7) e in
            q.done k b
            ∙ sym (get_or-append keys (replicate (8 - nk) row) [] k (omega (arith, length-round_keys nk key)) ∙ get_or-table (round_key (key_expansion nk key)) (nk + 7) 0 k [] b ∙ ap (round_key (key_expansion nk key)) (zero-add k))
        by false e =
            let b : nk + 7 ≤ k = ltb-false k (nk + 7) e in
            let z : length keys + (k - (nk + 7)) ≡ k = omega (arith, length-round_keys nk key) in
            q.rest k b
            ∙ h k b d
            ∙ sym (ap (λ (n : ℕ). get_or (fifteen nk key) n []) (sym z) ∙ get_or-append-add keys (replicate (8 - nk) row) (k - (nk + 7)) [] ∙ get_or-replicate (8 - nk) (k - (nk + 7)) row [] (omega (arith, most)))

-- at the first row that is made the rows before it are the key's
pub rows-begin : (nk : ℕ) → is_key_length (4 * nk) ≡ true → (key : List ℕ) (w : List (List ℕ)) (first end : Columns) → Four nk key first 0 → Four nk key end (nk - 4) → get_or w 0 [] ≡ state_of first → (nk ≡ 8 → get_or w 1 [] ≡ state_of end) → Rows nk key w w (first_row nk)
rows-begin nk kl key w first end f g e₀ e₁ = record { long = refl; done = each-nk (λ (n : ℕ). Four n key first 0 → Four n key end (n - 4) → (n ≡ 8 → get_or w 1 [] ≡ state_of end) → (k : ℕ) → k < first_row n → get_or w k [] ≡ round_key (key_expansion n key) k) nk kl (λ a b _. one 4 a) (λ a b _. one 6 a) two f g e₁; rest = λ k _. refl }
  where
    one : (n : ℕ) → Four n key first 0 → (k : ℕ) → k < 1 → get_or w k [] ≡ round_key (key_expansion n key) k
    one n a zero l = e₀ ∙ row-of n key first 0 (omega arith) a
    one n a (suc k) l = absurd (omega arith)

    two : Four 8 key first 0 → Four 8 key end 4 → (◌≡◌ {A = ℕ} 8 8 → get_or w 1 [] ≡ state_of end) → (k : ℕ) → k < 2 → get_or w k [] ≡ round_key (key_expansion 8 key) k
    two a b e zero l = e₀ ∙ row-of 8 key first 0 (omega arith) a
    two a b e (suc zero) l = e refl ∙ row-of 8 key end 1 (omega arith) b
    two a b e (suc (suc k)) l = absurd (omega arith)

-- that row stands behind the key's words and before the last row
pub first-within : (nk : ℕ) → is_key_length (4 * nk) ≡ true → (nk ≤ word_of nk (first_row nk)) × (first_row nk ≤ nk + 7)
first-within nk kl = each-nk (λ (n : ℕ). (n ≤ word_of n (first_row n)) × (first_row n ≤ n + 7)) nk kl (omega arith, omega arith) (omega arith, omega arith) (omega arith, omega arith)

-- what holds before row i is made, and that it does: at the first row, and at a row more
abbrev pub Made : ℕ → List ℕ → List (List ℕ) → List (List ℕ) → Columns → Columns → ℕ → ℕ → ℕ → Type 0
Made nk key w₀ w older newer j x i = (nk ≤ 8) × (i ≤ nk + 7) × (nk ≤ word_of nk i) × Before nk key older newer j x i × Rows nk key w₀ w i

pub made_none : (nk : ℕ) (kl : is_key_length (4 * nk) ≡ true) (key : List ℕ) (w : List (List ℕ)) (first end : Columns) → Four nk key first 0 → Four nk key end (nk - 4) → get_or w 0 [] ≡ state_of first → (nk ≡ 8 → get_or w 1 [] ≡ state_of end) →
    {older : Columns} {i : ℕ} → older ≡ earlier_of nk first → i ≡ first_row nk → Made nk key w w older end 0 1 i
made_none nk kl key w first end f g e₀ e₁ eo ei =
    let h = first-within nk kl in
    rw (eo, ei) (omega (arith, length_most (4 * nk) kl), h.1, h.0, begins nk kl key first end f g, rows-begin nk kl key w first end f g e₀ e₁)

pub made_more : (nk : ℕ) (key : List ℕ) → is_key_length (4 * nk) ≡ true → {w₀ w : List (List ℕ)} (older newer next : Columns) (j x i : ℕ) {row : Columns} {k y : ℕ} {v : List ℕ} → length w₀ ≡ 15 → i < nk + 7 →
    Made nk key w₀ w older newer j x i → Next nk j x (source_of nk older newer) newer.c3 next → row ≡ row_of nk newer next → k ≡ place nk (j + 4) → y ≡ constant_after nk j x → v ≡ state_of row →
    Made nk key w₀ (set w i v) newer next k y (i + 1)
made_more nk key kl {w₀} {w} older newer next j x i {row} {k} {y} {v} l lt m n er ek ey ev =
    let t = turned nk key kl older newer next j x i m.2 m.3 n in (
      m.0,
      omega arith,
      omega (arith, m.2),
      then_by t ek ey,
      rows_more m.4 (omega (arith, m.0)) (ev ∙ ap state_of er ∙ row-of nk key (row_of nk newer next) i lt t.row),
    )

pub made_all : (nk : ℕ) (key : List ℕ) → is_key_length (4 * nk) ≡ true → (w₀ w : List (List ℕ)) (i : ℕ) {older newer : Columns} {j x : ℕ} → length w₀ ≡ 15 → ((k : ℕ) → nk + 7 ≤ k → k < 15 → get_or w₀ k [] ≡ replicate 16 0) → nk + 7 ≤ i →
    Made nk key w₀ w older newer j x i → w ≡ fifteen nk key
made_all nk key kl w₀ w i l h e m = let z : i ≡ nk + 7 = omega (arith, m.1) in rows_all nk key w₀ w kl l h (subst (Rows nk key w₀ w) z m.4)

-- rows behind those that the key was written to
pub behind-one : (a : List ℕ) (k : ℕ) → 0 < k → k < 15 → get_or (set (replicate 15 (replicate 16 0)) 0 a) k [] ≡ replicate 16 0
behind-one a k h d = let row : List ℕ = replicate 16 0 in get_or-set_other (replicate 15 row) 0 k a [] (λ z. omega arith) ∙ get_or-replicate 15 k row [] d

pub behind-two : (a b : List ℕ) (k : ℕ) → 1 < k → k < 15 → get_or (set (set (replicate 15 (replicate 16 0)) 0 a) 1 b) k [] ≡ replicate 16 0
behind-two a b k h d = let row : List ℕ = replicate 16 0 in get_or-set_other (set (replicate 15 row) 0 a) 1 k b [] (λ z. omega arith) ∙ behind-one a k (omega arith) d
