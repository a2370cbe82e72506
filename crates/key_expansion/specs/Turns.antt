-- A turn of the key schedule: from the words before them, the next four and the round key that they complete. Assumes nothing.
use Rattle.std.specs.Prelude.{◌≡◌, Bool, true, false, cond, ℕ, suc, ◌+◌, ◌-◌, ◌*◌, ◌/◌, ◌%◌, ◌<◌, ◌≤◌, eqb, ltb, get_or}
use Rattle.std.proofs.Math.Path.{refl, sym, ap, ap₂}
use Rattle.std.proofs.Common.{◌∙◌, subst, eqb-true, ltb-true, ltb-false}
use mathlib.Core.List.{List, [], ◌++◌}
use native.Mathlib.Omega.{arith}
use Rattle.std.proofs.lemmas.Bool.{eqb-false}
use Rattle.field.specs.Field.{x_times}
use Rattle.rounds.specs.declared.Columns.{Columns}
use Rattle.rounds.specs.Columns.{state_of}
use Rattle.key_expansion.specs.KeyLength.{is_key_length, length-least, each-nk}
use Rattle.key_expansion.specs.KeyExpansion.{xor_word, power, temp, key_expansion, round_key}
use Rattle.key_expansion.specs.Words.{word_at, word-of, word_made}
use Rattle.key_expansion.specs.Schedule.{bytes_in, temp_at, place, Next, straddled, source_of, row_of, constant_after}
use Rattle.key_expansion.specs.WordLaws.{temp-other}

-- the number of the round constant that word m, or the first one behind it that takes one, has
abbrev pub constant_of : ℕ → ℕ → ℕ
constant_of nk m = (m + nk - 1) / nk - 1

-- what holds of an even place m among Nk
pub record Places (nk m : ℕ) : Type 0 where
  pub words : 0 < nk
  pub odd₁ : (m + 1) % nk ≡ 0 → ⊥
  pub odd₁' : 6 < nk → (m + 1) % nk ≡ 4 → ⊥
  pub odd₃ : (m + 3) % nk ≡ 0 → ⊥
  pub odd₃' : 6 < nk → (m + 3) % nk ≡ 4 → ⊥
  pub first : m % nk ≡ 0 → constant_of nk m ≡ m / nk - 1
  pub third : (m + 2) % nk ≡ 0 → constant_of nk m ≡ (m + 2) / nk - 1
  pub behind₂ : place nk (m % nk + 2) ≡ (m + 2) % nk
  pub behind₄ : place nk (m % nk + 4) ≡ (m + 4) % nk
  pub below : m % nk < nk
  pub constant : constant_after nk (m % nk) (power (constant_of nk m)) ≡ power (constant_of nk (m + 4))

placed : (nk j k : ℕ) (t : Bool) → ltb j nk ≡ t → (j < nk → j ≡ k) → (nk ≤ j → j - nk ≡ k) → cond t j (j - nk) ≡ k
placed nk j k true e p q = p (ltb-true j nk e)
placed nk j k false e p q = q (ltb-false j nk e)

-- one constant more, or the same
used : (nk j a b : ℕ) (s t : Bool) → eqb j 0 ≡ s → ltb nk (j + 4) ≡ t → (j ≡ 0 → suc a ≡ b) → (nk < j + 4 → suc a ≡ b) → ((j ≡ 0 → ⊥) → j + 4 ≤ nk → a ≡ b) →
    cond s (x_times (power a)) (cond t (x_times (power a)) (power a)) ≡ power b
unfolding power
used nk j a b true t es et p q r = ap power (p (eqb-true j 0 es))
used nk j a b false true es et p q r = ap power (q (ltb-true nk (j + 4) et))
used nk j a b false false es et p q r = ap power (r (eqb-false j 0 es) (ltb-false nk (j + 4) et))

pub places : (nk : ℕ) → is_key_length (4 * nk) ≡ true → (m : ℕ) → nk ≤ m → m % 2 ≡ 0 → Places nk m
places nk e = each-nk (λ (n : ℕ). (m : ℕ) → n ≤ m → m % 2 ≡ 0 → Places n m) nk e four six eight
  where
    four : (m : ℕ) → 4 ≤ m → m % 2 ≡ 0 → Places 4 m
    four m l h =
        record {
          words = omega arith;
          odd₁ = λ z. omega arith;
          odd₁' = λ y z. omega arith;
          odd₃ = λ z. omega arith;
          odd₃' = λ y z. omega arith;
          first = λ z. omega arith;
          third = λ z. omega arith;
          behind₂ = placed 4 (m % 4 + 2) ((m + 2) % 4) (ltb (m % 4 + 2) 4) refl (λ z. omega arith) (λ z. omega arith);
          behind₄ = placed 4 (m % 4 + 4) ((m + 4) % 4) (ltb (m % 4 + 4) 4) refl (λ z. omega arith) (λ z. omega arith);
          below = omega arith;
          constant = used 4 (m % 4) (constant_of 4 m) (constant_of 4 (m + 4)) (eqb (m % 4) 0) (ltb 4 (m % 4 + 4)) refl refl (λ z. omega arith) (λ z. omega arith) (λ y z. omega arith);
        }

    six : (m : ℕ) → 6 ≤ m → m % 2 ≡ 0 → Places 6 m
    six m l h =
        record {
          words = omega arith;
          odd₁ = λ z. omega arith;
          odd₁' = λ y z. omega arith;
          odd₃ = λ z. omega arith;
          odd₃' = λ y z. omega arith;
          first = λ z. omega arith;
          third = λ z. omega arith;
          behind₂ = placed 6 (m % 6 + 2) ((m + 2) % 6) (ltb (m % 6 + 2) 6) refl (λ z. omega arith) (λ z. omega arith);
          behind₄ = placed 6 (m % 6 + 4) ((m + 4) % 6) (ltb (m % 6 + 4) 6) refl (λ z. omega arith) (λ z. omega arith);
          below = omega arith;
          constant = used 6 (m % 6) (constant_of 6 m) (constant_of 6 (m + 4)) (eqb (m % 6) 0) (ltb 6 (m % 6 + 4)) refl refl (λ z. omega arith) (λ z. omega arith) (λ y z. omega arith);
        }

    eight : (m : ℕ) → 8 ≤ m → m % 2 ≡ 0 → Places 8 m
    eight m l h =
        record {
          words = omega arith;
          odd₁ = λ z. omega arith;
          odd₁' = λ y z. omega arith;
          odd₃ = λ z. omega arith;
          odd₃' = λ y z. omega arith;
          first = λ z. omega arith;
          third = λ z. omega arith;
          behind₂ = placed 8 (m % 8 + 2) ((m + 2) % 8) (ltb (m % 8 + 2) 8) refl (λ z. omega arith) (λ z. omega arith);
          behind₄ = placed 8 (m % 8 + 4) ((m + 4) % 8) (ltb (m % 8 + 4) 8) refl (λ z. omega arith) (λ z. omega arith);
          below = omega arith;
          constant = used 8 (m % 8) (constant_of 8 m) (constant_of 8 (m + 4)) (eqb (m % 8) 0) (ltb 8 (m % 8 + 4)) refl refl (λ z. omega arith) (λ z. omega arith) (λ y z. omega arith);
        }

-- x is looked at where the place is the first alone
temp-by : (nk j x y : ℕ) (t : List ℕ) (s : Bool) → eqb j 0 ≡ s → (j ≡ 0 → x ≡ y) → temp_at nk j x t ≡ temp_at nk j y t
unfolding temp_at
temp-by nk j x y t true e h = ap (λ (z : ℕ). temp_at nk j z t) (h (eqb-true j 0 e))
temp-by nk j x y t false e h = rw e

-- four words of the schedule, from word i on
pub record Four (nk : ℕ) (key : List ℕ) (s : Columns) (i : ℕ) : Type 0 where
  pub zeroth : bytes_in s.c0 ≡ word_at nk key i
  pub first : bytes_in s.c1 ≡ word_at nk key (i + 1)
  pub second : bytes_in s.c2 ≡ word_at nk key (i + 2)
  pub third : bytes_in s.c3 ≡ word_at nk key (i + 3)

module _ (nk : ℕ) (key : List ℕ) (kl : is_key_length (4 * nk) ≡ true) (m : ℕ) (l : nk ≤ m) (ev : m % 2 ≡ 0) where
  p : Places nk m
  p = places nk kl m l ev

  -- word m + k, where what stands Nk before it and the word before it are known
  made : (k j x : ℕ) {a b d : List ℕ} → j ≡ (m + k) % nk → (j ≡ 0 → x ≡ power ((m + k) / nk - 1)) → a ≡ word_at nk key (m - nk + k) → b ≡ word_at nk key (m + k - 1) → d ≡ xor_word a (temp_at nk j x b) → d ≡ word_at nk key (m + k)
  unfolding temp temp_at
  made k j x {a} {b} {d} ej ex ea eb e =
      let s : nk + (m - nk + k) ≡ m + k = omega arith in
      let w : word_at nk key (nk + (m - nk + k)) ≡ xor_word (word_at nk key (m - nk + k)) (temp nk (nk + (m - nk + k)) (word_at nk key (nk + (m - nk + k) - 1))) = word_made nk key (m - nk + k) p.words in
      e
      ∙ ap₂ (λ (u v : List ℕ). xor_word u (temp_at nk j x v)) ea eb
      ∙ ap (xor_word (word_at nk key (m - nk + k))) (temp-by nk j x (power ((m + k) / nk - 1)) (word_at nk key (m + k - 1)) (eqb j 0) refl ex ∙ ap (λ (i : ℕ). temp_at nk i (power ((m + k) / nk - 1)) (word_at nk key (m + k - 1))) ej)
      ∙ sym (subst (λ (i : ℕ). word_at nk key i ≡ xor_word (word_at nk key (m - nk + k)) (temp nk i (word_at nk key (i - 1)))) s w)

  at : {d : List ℕ} {i k : ℕ} → d ≡ word_at nk key i → i ≡ k → d ≡ word_at nk key k
  at e h = e ∙ ap (word_at nk key) h

  -- an odd place takes the word before it as it is
  odd : (k x : ℕ) {a b d : List ℕ} → ((m + k) % nk ≡ 0 → ⊥) → (6 < nk → (m + k) % nk ≡ 4 → ⊥) → a ≡ word_at nk key (m - nk + k) → b ≡ word_at nk key (m + k - 1) → d ≡ xor_word a b → d ≡ word_at nk key (m + k)
  odd k x {a} {b} {d} n n' ea eb e = made k ((m + k) % nk) x refl (λ z. absurd (n z)) ea eb (e ∙ ap (xor_word a) (sym (temp-other nk ((m + k) % nk) x b n n')))

  pub next-four : (j x : ℕ) {from r : Columns} {last : ℕ} → j ≡ m % nk → x ≡ power (constant_of nk m) → Four nk key from (m - nk) → bytes_in last ≡ word_at nk key (m - 1) → Next nk j x from last r → Four nk key r m
  next-four j x {from} {r} {last} ej ex f eb n = record { zeroth = zeroth; first = first; second = second; third = third }
    where
      zeroth : bytes_in r.c0 ≡ word_at nk key m
      zeroth =
          let none : m + 0 ≡ m = omega arith in
          at (made 0 j x (ej ∙ ap (λ (i : ℕ). i % nk) (sym none)) (λ z. ex ∙ ap power (p.first (sym ej ∙ z) ∙ ap (λ (i : ℕ). i / nk - 1) (sym none))) (at f.zeroth (omega arith)) (at eb (omega arith)) n.first) none

      first : bytes_in r.c1 ≡ word_at nk key (m + 1)
      first = odd 1 x p.odd₁ p.odd₁' f.first (at zeroth (omega arith)) n.second

      second : bytes_in r.c2 ≡ word_at nk key (m + 2)
      second =
          let e : place nk (j + 2) ≡ (m + 2) % nk = ap (λ (i : ℕ). place nk (i + 2)) ej ∙ p.behind₂ in
          made 2 (place nk (j + 2)) x e (λ z. ex ∙ ap power (p.third (sym e ∙ z))) f.second (at first (omega arith)) n.third

      third : bytes_in r.c3 ≡ word_at nk key (m + 3)
      third = odd 3 x p.odd₃ p.odd₃' f.third (at second (omega arith)) n.fourth

-- the words before row i is made, of which the next is word m
abbrev pub word_of : ℕ → ℕ → ℕ
word_of nk i = 4 * i + nk % 4

pub record Before (nk : ℕ) (key : List ℕ) (older newer : Columns) (j x i : ℕ) : Type 0 where
  pub source : Four nk key (source_of nk older newer) (word_of nk i - nk)
  pub last : Four nk key newer (word_of nk i - 4)
  pub place : j ≡ word_of nk i % nk
  pub below : j < nk
  pub constant : x ≡ power (constant_of nk (word_of nk i))

pub straddle : {nk : ℕ} {key : List ℕ} {a b : Columns} {i : ℕ} → Four nk key a i → Four nk key b (i + 4) → Four nk key (straddled a b) (i + 2)
straddle {nk} {key} {a} {b} {i} f g =
    record {
      zeroth = f.second;
      first = let e : i + 3 ≡ i + 2 + 1 = omega arith in f.third ∙ ap (word_at nk key) e;
      second = let e : i + 4 ≡ i + 2 + 2 = omega arith in g.zeroth ∙ ap (word_at nk key) e;
      third = let e : i + 4 + 1 ≡ i + 2 + 3 = omega arith in g.first ∙ ap (word_at nk key) e;
    }

joined : {a b c d a' b' c' d' : List ℕ} → a ≡ a' → b ≡ b' → c ≡ c' → d ≡ d' → a ++ b ++ c ++ d ≡ a' ++ b' ++ c' ++ d'
joined e f g h = cc

-- four words, which a round key is
pub row-of : (nk : ℕ) (key : List ℕ) (s : Columns) (i : ℕ) → i < nk + 7 → Four nk key s (4 * i) → state_of s ≡ round_key (key_expansion nk key) i
unfolding round_key
row-of nk key s i h f = joined (at (omega arith) f.zeroth) (at (omega arith) f.first) (at (omega arith) f.second) (at (omega arith) f.third)
  where
    at : {d : List ℕ} {k : ℕ} → k < nk + (4 * (nk + 7) - nk) → d ≡ word_at nk key k → d ≡ get_or (key_expansion nk key) k []
    at {d} {k} l e = e ∙ sym (word-of nk key (4 * (nk + 7) - nk) k l)

-- a turn: the row, and the words before the next one
pub record Turned (nk : ℕ) (key : List ℕ) (newer next : Columns) (j x i : ℕ) : Type 0 where
  pub row : Four nk key (row_of nk newer next) (4 * i)
  pub then : Before nk key newer next (place nk (j + 4)) (constant_after nk j x) (i + 1)

moved : {nk : ℕ} {key : List ℕ} {s : Columns} {i k : ℕ} → Four nk key s i → i ≡ k → Four nk key s k
moved {nk} {key} {s} f e = subst (Four nk key s) e f

-- which words the row and the next source are, for each Nk
record Shared (nk : ℕ) (key : List ℕ) (newer next : Columns) (i : ℕ) : Type 0 where
  pub row : Four nk key (row_of nk newer next) (4 * i)
  pub source : Four nk key (source_of nk newer next) (word_of nk (i + 1) - nk)

shared : (nk : ℕ) → is_key_length (4 * nk) ≡ true → (key : List ℕ) (newer next : Columns) (i : ℕ) → nk ≤ word_of nk i → Four nk key newer (word_of nk i - 4) → Four nk key next (word_of nk i) → Shared nk key newer next i
shared nk kl = each-nk (λ (n : ℕ). (key : List ℕ) (newer next : Columns) (i : ℕ) → n ≤ word_of n i → Four n key newer (word_of n i - 4) → Four n key next (word_of n i) → Shared n key newer next i) nk kl four six eight
  where
    four : (key : List ℕ) (newer next : Columns) (i : ℕ) → 4 ≤ word_of 4 i → Four 4 key newer (word_of 4 i - 4) → Four 4 key next (word_of 4 i) → Shared 4 key newer next i
    four key newer next i h f g = record { row = moved g (omega arith); source = moved g (omega arith) }

    six : (key : List ℕ) (newer next : Columns) (i : ℕ) → 6 ≤ word_of 6 i → Four 6 key newer (word_of 6 i - 4) → Four 6 key next (word_of 6 i) → Shared 6 key newer next i
    six key newer next i h f g = let both = straddle f (moved g (omega arith)) in record { row = moved both (omega arith); source = moved both (omega arith) }

    eight : (key : List ℕ) (newer next : Columns) (i : ℕ) → 8 ≤ word_of 8 i → Four 8 key newer (word_of 8 i - 4) → Four 8 key next (word_of 8 i) → Shared 8 key newer next i
    eight key newer next i h f g = record { row = moved g (omega arith); source = moved f (omega arith) }

even : (nk : ℕ) → is_key_length (4 * nk) ≡ true → (i : ℕ) → word_of nk i % 2 ≡ 0
even nk kl = each-nk (λ (n : ℕ). (i : ℕ) → word_of n i % 2 ≡ 0) nk kl (λ i. omega arith) (λ i. omega arith) (λ i. omega arith)

pub turned : (nk : ℕ) (key : List ℕ) → is_key_length (4 * nk) ≡ true → (older newer next : Columns) (j x i : ℕ) → nk ≤ word_of nk i →
    Before nk key older newer j x i → Next nk j x (source_of nk older newer) newer.c3 next → Turned nk key newer next j x i
turned nk key kl older newer next j x i h b n =
    record {
      row = s.row;
      then =
          record {
            source = s.source;
            last = moved f (omega arith);
            place = behind ∙ ap (λ (k : ℕ). k % nk) next_is_word;
            below = let l : (m + 4) % nk < nk = (places nk kl (m + 4) (omega arith) (omega (arith, even nk kl i))).below in rw behind l;
            constant = ap₂ (constant_after nk) b.place b.constant ∙ q.constant ∙ ap (λ (k : ℕ). power (constant_of nk k)) next_is_word;
          };
    }
  where
    m : ℕ
    m = word_of nk i

    q : Places nk m
    q = places nk kl m h (even nk kl i)

    next_is_word : m + 4 ≡ word_of nk (i + 1)
    next_is_word = omega arith

    behind : place nk (j + 4) ≡ (m + 4) % nk
    behind = ap (λ (k : ℕ). place nk (k + 4)) b.place ∙ q.behind₄

    four-least : 4 ≤ m
    four-least = omega (arith, length-least (4 * nk) kl)

    f : Four nk key next m
    f = next-four nk key kl m h (even nk kl i) j x b.place b.constant b.source (let e : m - 4 + 3 ≡ m - 1 = omega (arith, four-least) in b.last.third ∙ ap (word_at nk key) e) n

    s : Shared nk key newer next i
    s = shared nk kl key newer next i h b.last f

-- as the code has the next place and constant
pub then_by : {nk : ℕ} {key : List ℕ} {newer next : Columns} {j x i k y : ℕ} → Turned nk key newer next j x i → k ≡ place nk (j + 4) → y ≡ constant_after nk j x → Before nk key newer next k y (i + 1)
then_by {k = k} {y = y} t ek ey = rw (ek, ey) t.then
