-- Laws of the list's lengths, entries and walks: what is seen where there is one, and how far each reaches. Assumes nothing.
use Rattle.std.specs.Prelude.{◌≡◌, refl, Bool, true, false, cond, ◌&&◌, Option, Some, None, is_some, List, [], ◌∷◌, ◌++◌, ℕ, zero, suc, ◌+◌, ◌*◌, ◌-◌, ◌^◌, ◌<◌, ◌≤◌, eqb, ltb, leb, length, get_or}
use Rattle.std.proofs.Common.{sym, ap, ap₂, ◌∙◌, true≢false, pow-suc, mul_assoc, add-one, arith, ltb-true, leb-true, eqb-true, lt-ltb, le-ltb, le-leb, ne_eqb, length-append}
use Rattle.std.proofs.Math.Bool.{and-eq-true_iff}
use Rattle.std.proofs.Math.ListN.{get_or-eq_default}
use Rattle.octets.specs.Lists.{part}
use Rattle.list.specs.declared.Length.{Length}
use Rattle.list.specs.declared.Entry.{Entry}
use Rattle.list.specs.declared.Form.TheVariants.{Definite, Indefinite}
use Rattle.list.specs.declared.Outer.{Outer}
use Rattle.list.specs.Ber.{unsigned, fitting, length_at, entry_of, entry_at, next_place, head_of, head, walked}

-- a number has a byte more at its end
times-by : (q u b : ℕ) → q * 256 + (u * 256 + b) ≡ (q + u) * 256 + b
times-by q u b = omega arith

pub unsigned-more : (s : List ℕ) (b : ℕ) → unsigned (s ++ (b ∷ [])) ≡ unsigned s * 256 + b
unfolding unsigned
unsigned-more [] b = omega arith
unsigned-more (x ∷ s) b =
    let n : length (s ++ (b ∷ [])) ≡ suc (length s) = length-append s (b ∷ []) ∙ add-one (length s) in
    let q : x * 256 ^ length (s ++ (b ∷ [])) ≡ x * 256 ^ length s * 256 =
    ap (λ (m : ℕ). x * 256 ^ m) n ∙ ap (λ (m : ℕ). x * m) (pow-suc 256 (length s)) ∙ sym (mul_assoc x (256 ^ length s) 256) in
    ap₂ ◌+◌ q (unsigned-more s b) ∙ times-by (x * 256 ^ length s) (unsigned s) b

-- the largest usize
abbrev pub largest : ℕ
largest = 18446744073709551615

-- the bytes of a length v at place p, in one of its two forms, up to place n; and v bytes after them
pub data Sized (d : List ℕ) (p v n : ℕ) : Type 0 where
  short-at : get_or d p 0 ≡ v → v < 0x80 → n ≡ p + 1 → n + v ≤ length d → Sized d p v n
  long-at : (m : ℕ) → get_or d p 0 ≡ 0x80 + m → 0 < m → 0x80 + m < 0xFF → unsigned (part d (p + 1) m) ≡ v → n ≡ p + 1 + m → n + v ≤ length d → Sized d p v n

pub record Reach (d : List ℕ) (p v n : ℕ) : Type 0 where
  pub moves : p < n
  pub fits : n + v ≤ length d

pub sized-reach : {d : List ℕ} {p v n : ℕ} → Sized d p v n → Reach d p v n
sized-reach (short-at e l q f) = record { moves = omega arith; fits = f }
sized-reach (long-at m e z l u q f) = record { moves = omega arith; fits = f }

-- a length that fits is told
pub fits_told : (d : List ℕ) (v n : ℕ) → n + v ≤ length d → fitting d v n ≡ Some (record { value = v; next = n })
unfolding fitting
fits_told d v n h = simp (le-leb (n + v) (length d) h)

pub sized-length : {d : List ℕ} {p v n : ℕ} → Sized d p v n → length_at d p ≡ Some (record { value = v; next = n })
unfolding length_at
sized-length {d} {p} {v} {n} (short-at e l q f) = simp (e, lt-ltb v 0x80 l, ← q, fits_told d v n f)
sized-length {d} {p} {v} {n} (long-at m e z l u q f) =
    let k : 0x80 + m - 0x80 ≡ m = omega arith in
    simp (e, le-ltb (0x80 + m) 0x80 (omega arith), lt-ltb 0x80 (0x80 + m) (omega arith), lt-ltb (0x80 + m) 0xFF l, k, u, ← q, fits_told d v n f)

-- and none else
pub record Fits (d : List ℕ) (v n : ℕ) (l : Length) : Type 0 where
  pub value : l.value ≡ v
  pub next : l.next ≡ n
  pub fits : n + v ≤ length d

fits_by : (d : List ℕ) (v n : ℕ) (l : Length) (b : Bool) → leb (n + v) (length d) ≡ b → cond b (Some (record { value = v; next = n })) None ≡ Some l → Fits d v n l
fits_by d v n l true e t =
    let q : ◌≡◌ {A = Length} (record { value = v; next = n }) l = cc in
    record { value = sym (ap (λ (x : Length). x.value) q); next = sym (ap (λ (x : Length). x.next) q); fits = leb-true (n + v) (length d) e }
fits_by d v n l false e t = cc

told-fits : (d : List ℕ) (v n : ℕ) (l : Length) → fitting d v n ≡ Some l → Fits d v n l
unfolding fitting
told-fits d v n l t = fits_by d v n l (leb (n + v) (length d)) refl t

abbrev told : List ℕ → ℕ → ℕ → Bool → Bool → Option Length
told d p b x y = cond x (fitting d b (p + 1)) (cond y (fitting d (unsigned (part d (p + 1) (b - 0x80))) (p + 1 + (b - 0x80))) None)

sized-by :
    (d : List ℕ) (p : ℕ) (l : Length) (x y : Bool)
    → ltb (get_or d p 0) 0x80 ≡ x
    → ltb 0x80 (get_or d p 0) && ltb (get_or d p 0) 0xFF ≡ y
    → told d p (get_or d p 0) x y ≡ Some l
    → Sized d p l.value l.next
sized-by d p l true y e f t =
    let k = told-fits d (get_or d p 0) (p + 1) l t in
    let h = k.fits in
    short-at (sym k.value) (rw k.value (ltb-true (get_or d p 0) 0x80 e)) k.next (rw (k.value, k.next) h)
sized-by d p l false true e f t =
    let m : ℕ = get_or d p 0 - 0x80 in
    let k = told-fits d (unsigned (part d (p + 1) m)) (p + 1 + m) l t in
    let g = (and-eq-true_iff (ltb 0x80 (get_or d p 0)) _).0 f in
    let a = ltb-true 0x80 (get_or d p 0) g.0 in
    let b = ltb-true (get_or d p 0) 0xFF g.1 in
    let h = k.fits in
    long-at m (omega arith) (omega arith) (omega arith) (sym k.value) k.next (rw (k.value, k.next) h)
sized-by d p l false false e f t = cc

pub length-sized : (d : List ℕ) (p : ℕ) (l : Length) → length_at d p ≡ Some l → Sized d p l.value l.next
unfolding length_at
length-sized d p l t = sized-by d p l _ _ refl refl t

-- what is seen where an entry stands at place p: its content is the two bytes at place m
pub record Seen (d : List ℕ) (p m : ℕ) : Type 0 where
  pub tag : get_or d p 0 ≡ 4
  pub sized : Sized d (p + 1) 2 m

abbrev pub the_entry : List ℕ → ℕ → Entry
the_entry d m = record { id = record { 0 = get_or d m 0 * 256 + get_or d (m + 1) 0 }; next = m + 2 }

pub seen_entry : {d : List ℕ} {p m : ℕ} → Seen d p m → entry_at d p ≡ Some (the_entry d m)
unfolding entry_at
seen_entry {d} {p} {m} s = simp (sized-length s.sized, s.tag)

-- at each place there is an entry that is seen, or none
pub data Case (d : List ℕ) (p : ℕ) (e : Option Entry) : Type 0 where
  there : (m : ℕ) → Seen d p m → e ≡ Some (the_entry d m) → Case d p e
  missing : e ≡ None → Case d p e

two-by :
    (d : List ℕ) (p : ℕ) (l : Length) (b : Bool)
    → get_or d p 0 ≡ 4
    → length_at d (p + 1) ≡ Some l
    → eqb l.value 2 ≡ b
    → Case d p (cond b (Some (the_entry d l.next)) None)
two-by d p l true t q e = there l.next (record { tag = t; sized = rw (eqb-true l.value 2 e) at (length-sized d (p + 1) l q) }) refl
two-by d p l false t q e = missing refl

case-by : (d : List ℕ) (p : ℕ) (o : Option Length) (b : Bool) → length_at d (p + 1) ≡ o → eqb (get_or d p 0) 4 ≡ b → Case d p (cond b (entry_of d o) None)
case-by d p (Some l) true q e = two-by d p l (eqb l.value 2) (eqb-true (get_or d p 0) 4 e) q refl
case-by d p None true q e = missing refl
case-by d p o false q e = missing refl

pub entry_case : (d : List ℕ) (p : ℕ) → Case d p (entry_at d p)
unfolding entry_at
entry_case d p = case-by d p (length_at d (p + 1)) _ refl refl

-- where there is none, the place stays
no-entry-by : (o : Option Entry) → is_some o ≡ false → o ≡ None
no-entry-by None t = refl
no-entry-by (Some e) t = absurd (true≢false t)

pub no-entry : (d : List ℕ) (p : ℕ) → is_some (entry_at d p) ≡ false → entry_at d p ≡ None
no-entry d p t = no-entry-by (entry_at d p) t

pub no-next : (d : List ℕ) (p : ℕ) → entry_at d p ≡ None → next_place p (entry_at d p) ≡ p
no-next d p t = ap (next_place p) t

-- where tag 04 does not stand there is none; nor at the end of the data and past it
pub no-tag : (d : List ℕ) (p : ℕ) → (get_or d p 0 ≡ 4 → ⊥) → entry_at d p ≡ None
unfolding entry_at
no-tag d p h = simp (ne_eqb (get_or d p 0) 4 h)

pub past-entry : (d : List ℕ) (p : ℕ) → length d ≤ p → entry_at d p ≡ None
past-entry d p h = let q = get_or-eq_default d 0 h in no-tag d p (λ e. omega arith)

-- a head h is right, tag 30 and a length of those at place 1, o, that says just what is left, or 80; or there is none
pub data HeadCase (d : List ℕ) (o : Option Length) (h : Option Outer) : Type 0 where
  right : (l : Length) → get_or d 0 0 ≡ 0x30 → o ≡ Some l → l.next + l.value ≡ length d → h ≡ Some (record { form = Definite; first = l.next }) → HeadCase d o h
  open-end : get_or d 0 0 ≡ 0x30 → get_or d 1 0 ≡ 0x80 → h ≡ Some (record { form = Indefinite; first = 2 }) → HeadCase d o h
  wrong : h ≡ None → HeadCase d o h

rest-by :
    (d : List ℕ) (l : Length) (z : Bool)
    → get_or d 0 0 ≡ 0x30
    → eqb (l.next + l.value) (length d) ≡ z
    → HeadCase d (Some l) (cond z (Some (record { form = Definite; first = l.next })) None)
rest-by d l true t e = right l t refl (eqb-true (l.next + l.value) (length d) e) refl
rest-by d l false t e = wrong refl

head-by :
    (d : List ℕ) (o : Option Length) (x y : Bool)
    → eqb (get_or d 0 0) 0x30 ≡ x
    → eqb (get_or d 1 0) 0x80 ≡ y
    → HeadCase d o (cond x (cond y (Some (record { form = Indefinite; first = 2 })) (head_of d o)) None)
head-by d o true true e f = open-end (eqb-true (get_or d 0 0) 0x30 e) (eqb-true (get_or d 1 0) 0x80 f) refl
head-by d (Some l) true false e f = rest-by d l (eqb (l.next + l.value) (length d)) (eqb-true (get_or d 0 0) 0x30 e) refl
head-by d None true false e f = wrong refl
head-by d o false y e f = wrong refl

pub head-case : (d : List ℕ) → HeadCase d (length_at d 1) (head d)
unfolding head
head-case d = head-by d (length_at d 1) _ _ refl refl

-- there is none, whatever the tag, where no length follows it; FF is none's first byte
no-head-by : (b : Bool) → ◌≡◌ {A = Option Outer} (cond b None None) None
no-head-by true = refl
no-head-by false = refl

pub no-head : (d : List ℕ) → (get_or d 1 0 ≡ 0x80 → ⊥) → length_at d 1 ≡ None → head d ≡ None
unfolding head
no-head d h e = simp (ne_eqb (get_or d 1 0) 0x80 h, e) (no-head-by (eqb (get_or d 0 0) 0x30))

pub no-FF : (d : List ℕ) → get_or d 1 0 ≡ 0xFF → head d ≡ None
unfolding length_at
no-FF d e = no-head d (λ z. omega arith) (simp e)

-- a walk, from its front and from its back
pub walked-front : (d : List ℕ) (p n : ℕ) → walked d p (suc n) ≡ walked d (next_place p (entry_at d p)) n
unfolding walked
walked-front d p n = refl

pub walked-back : (d : List ℕ) (p n : ℕ) → walked d p (suc n) ≡ next_place (walked d p n) (entry_at d (walked d p n))
unfolding walked
walked-back d p zero = refl
walked-back d p (suc n) = walked-back d (next_place p (entry_at d p)) n

pub walked-add : (d : List ℕ) (p m n : ℕ) → walked d p (m + n) ≡ walked d (walked d p m) n
unfolding walked
walked-add d p zero n = let e : 0 + n ≡ n = omega arith in rw e
walked-add d p (suc m) n = let e : suc m + n ≡ suc (m + n) = omega arith in rw e (walked-add d (next_place p (entry_at d p)) m n)

-- once stuck it stays stuck
pub stuck : (d : List ℕ) (p : ℕ) → entry_at d p ≡ None → (n : ℕ) → walked d p n ≡ p
unfolding walked
stuck d p t zero = refl
stuck d p t (suc n) = ap (λ (q : ℕ). walked d q n) (no-next d p t) ∙ stuck d p t n
