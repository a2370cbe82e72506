-- Well formed data are just the encodings of lists of KeySetIDs: floor(Lc/4) turns are enough to walk each, and the walk finds each KeySetID in its place.
-- Assumes nothing.
use Rattle.std.specs.Prelude.{◌≡◌, refl, Bool, true, false, cond, Option, Some, None, Ok, Err, is_ok, List, [], ◌∷◌, ◌++◌, ℕ, zero, suc, ◌+◌, ◌*◌, ◌-◌, ◌/◌, ◌%◌, ◌<◌, ◌≤◌, eqb, length, get_or, take, drop}
use Rattle.std.proofs.Common.{sym, ap₂, ◌∙◌, append_assoc, append-nil, add-one, arith, eq-eqb, ne_eqb, eqb-true, length-append, length-drop, take-append-drop, drop-cons, drop-drop, get_or-drop}
use Rattle.std.proofs.Math.Path.{ap, subst⁻¹}
use Rattle.std.proofs.Math.Bool.{and-eq-true_iff}
use Rattle.std.proofs.lemmas.Bool.{false≢true}
use Rattle.std.proofs.Math.Seq.{drop-length, drop-append_seam, take-append_seam}
use Rattle.octets.specs.Bytes.{Bytes}
use Rattle.octets.specs.Lists.{part, length_part}
use Rattle.list.specs.declared.Entry.{Entry}
use Rattle.list.specs.declared.Form.{Form}
use Rattle.list.specs.declared.Form.TheVariants.{Definite, Indefinite}
use Rattle.list.specs.declared.Outer.{Outer}
use Rattle.list.specs.Ber.{unsigned, length_at, entry_at, next_place, entry_id, head, walked, ended, listed_from, listed, is_formed, first_entry}
use Rattle.list.specs.Laws.{Sized, short-at, long-at, sized-length, sized-reach, length-sized, Seen, seen_entry, Case, there, missing, entry_case, no-tag, HeadCase, right, open-end, wrong, head-case, stuck, walked-front, walked-add}
use Rattle.list.specs.Encoding.{IsLength, short, long, AreEntries, none, more, Encodes, definite, indefinite, short_entries, encoded}

-- from place p on, the data are b
pub record At (d : List ℕ) (p : ℕ) (b : List ℕ) : Type 0 where
  pub start : p ≤ length d
  pub rest : drop p d ≡ b

at_length : {d b : List ℕ} {p : ℕ} → At d p b → length d ≡ p + length b
at_length {d} {b} {p} a = let h = a.start in let e = sym (length-drop p d) ∙ ap length a.rest in omega arith

record Cons (d : List ℕ) (p x : ℕ) (b : List ℕ) : Type 0 where
  pub within : p < length d
  pub byte : get_or d p 0 ≡ x
  pub rest : At d (p + 1) b

at-cons : {d b : List ℕ} {p x : ℕ} → At d p (x ∷ b) → Cons d p x b
at-cons {d} {b} {p} {x} a =
    let l = at_length a in
    let h : p < length d = omega arith in
    let e : get_or d p 0 ∷ drop (suc p) d ≡ x ∷ b = sym (drop-cons d p 0 h) ∙ a.rest in
    record { within = h; byte = cc; rest = record { start = omega arith; rest = rw add-one (cc) } }

-- bytes s, and behind them r
at_part : {d : List ℕ} {p : ℕ} (s r : List ℕ) → At d p (s ++ r) → part d p (length s) ≡ s
unfolding part
at_part s r a = ap (take (length s)) a.rest ∙ take-append_seam s r

at-behind : {d : List ℕ} {p : ℕ} (s r : List ℕ) → At d p (s ++ r) → At d (p + length s) r
at-behind {d} {p} s r a =
    let h = at_length a in
    let n = length-append s r in
    record { start = omega arith; rest = sym (drop-drop (length s) p d) ∙ ap (drop (length s)) a.rest ∙ drop-append_seam s r }

-- the bytes of a length that fits are a length where they stand
record LengthSeen (d : List ℕ) (p v : ℕ) (r : List ℕ) : Type 0 where
  pub n : ℕ
  pub sized : Sized d p v n
  pub rest : At d n r

length_seen : {d b r : List ℕ} {p v : ℕ} → IsLength v r b → v ≤ length r → At d p b → LengthSeen d p v r
length_seen {d} {b} {r} {p} {v} (short l) f a =
    let k = at-cons a in
    let e = at_length k.rest in
    record { n = p + 1; sized = short-at k.byte l refl (omega arith); rest = k.rest }
length_seen {d} {b} {r} {p} {v} (long s z l u) f a =
    let k = at-cons a in
    let m = at-behind s r k.rest in
    let e = at_length m in
    record { n = p + 1 + length s; sized = long-at (length s) k.byte z l (ap unsigned (at_part s r k.rest) ∙ u) refl (omega arith); rest = m }

-- the bytes of an entry are an entry where they stand
record EntrySeen (d : List ℕ) (p k : ℕ) (r : List ℕ) : Type 0 where
  pub n : ℕ
  pub is : entry_at d p ≡ Some (record { id = record { 0 = k }; next = n })
  pub rest : At d n r

entry_seen : {d b r : List ℕ} {p k high low : ℕ} → k ≡ high * 256 + low → IsLength 2 (high ∷ low ∷ r) b → At d p (4 ∷ b) → EntrySeen d p k r
entry_seen {d} {b} {r} {p} {k} {high} {low} q l a =
    let t = at-cons a in
    let s = length_seen l (omega arith) t.rest in
    let x = at-cons s.rest in
    let y = at-cons x.rest in
    let e : s.n + 1 + 1 ≡ s.n + 2 = omega arith in
    let i : get_or d s.n 0 * 256 + get_or d (s.n + 1) 0 ≡ k = rw (x.byte, y.byte) (sym q) in
    record {
      n = s.n + 2;
      is = seen_entry (record { tag = t.byte; sized = s.sized }) ∙ ap (λ (j : ℕ). Some (record { id = record { 0 = j }; next = s.n + 2 })) i;
      rest = rw e at y.rest;
    }

-- a length stays one with t behind all
length-then : {v : ℕ} {r b : List ℕ} (t : List ℕ) → IsLength v r b → IsLength v (r ++ t) (b ++ t)
length-then t (short l) = short l
length-then {v} {r} t (long s z l u) = rw append_assoc (long s z l u)

-- an entry takes four bytes or more
length-long : {v : ℕ} {r b : List ℕ} → IsLength v r b → length r < length b
length-long (short l) = omega arith
length-long {v} {r} (long s z l u) = omega (arith, length-append s r)

entries-long : {ids b : List ℕ} → AreEntries ids b → 4 * length ids ≤ length b
entries-long none = omega arith
entries-long (more q l e) = omega (arith, length-long l, entries-long e)

-- from place p on stand the entries of the KeySetIDs, one behind the other, and behind the last there is none
pub data Lists (d : List ℕ) : ℕ → List ℕ → Type 0 where
  ends : {p : ℕ} → entry_at d p ≡ None → Lists d p []
  goes_on : {p n k : ℕ} {ids : List ℕ} → entry_at d p ≡ Some (record { id = record { 0 = k }; next = n }) → Lists d n ids → Lists d p (k ∷ ids)

-- where the entries end, with the data or with two zero bytes, no entry stands
end-missing : {d t : List ℕ} {p : ℕ} → At d p t → get_or t 0 0 ≡ 0 → entry_at d p ≡ None
end-missing {d} {t} {p} a z =
    let e : get_or d (p + 0) 0 ≡ 0 = sym (get_or-drop p d 0 0) ∙ ap (λ (x : List ℕ). get_or x 0 0) a.rest ∙ z in
    let q : p + 0 ≡ p = omega arith in
    no-tag d p (λ f. let g = rw q at e in omega arith)

-- the bytes of entries, with t behind them, where they stand
module _ {d : List ℕ} (t : List ℕ) (z : get_or t 0 0 ≡ 0) where
  lists : {b ids : List ℕ} {p : ℕ} → AreEntries ids b → At d p (b ++ t) → Lists d p ids
  lists none a = ends (end-missing a z)
  lists (more q l e) a = let s = entry_seen q (length-then t l) a in goes_on s.is (lists e s.rest)

  walks-end : {b ids : List ℕ} {p : ℕ} → AreEntries ids b → At d p (b ++ t) → At d (walked d p (length ids)) t
  unfolding walked
  walks-end none a = a
  walks-end {p = p} (more {ids = ids} q l e) a =
      let s = entry_seen q (length-then t l) a in
      rw (walked-front d p (length ids) ∙ ap (λ (x : Option Entry). walked d (next_place p x) (length ids)) s.is) (walks-end e s.rest)

  -- so as many turns as there are entries are enough, and more do no harm
  walks-enough : {b ids : List ℕ} {p : ℕ} → AreEntries ids b → At d p (b ++ t) → At d (walked d p (length d / 4)) t
  walks-enough {b} {ids} {p} e a =
      let k : ℕ = length d / 4 - length ids in
      let q : length d / 4 ≡ length ids + k = omega (arith, entries-long e, at_length a, length-append b t) in
      let w = walks-end e a in
      let s : walked d p (length d / 4) ≡ walked d p (length ids) = ap (walked d p) q ∙ walked-add d p (length ids) k ∙ stuck d (walked d p (length ids)) (end-missing w z) k in
      rw s w

-- what stands behind the entries: nothing, or the end-of-contents octets
abbrev tail : Form → List ℕ
tail Definite = []
tail Indefinite = 0 ∷ 0 ∷ []

tail-zero : (f : Form) → get_or (tail f) 0 0 ≡ 0
tail-zero Definite = refl
tail-zero Indefinite = refl

tail-ended : (d : List ℕ) (f : Form) (p : ℕ) → At d p (tail f) → ended d f p ≡ true
unfolding ended
tail-ended d Definite p a = let l = at_length a in eq-eqb p (length d) (omega arith)
tail-ended d Indefinite p a =
    let l = at_length a in
    let x = at-cons a in
    simp (eq-eqb (p + 2) (length d) (omega arith), x.byte, (at-cons x.rest).byte)

-- the head of an encoding is right, and its entries follow
record HeadSeen (d ids : List ℕ) : Type 0 where
  pub form : Form
  pub r : List ℕ
  pub n : ℕ
  pub is : head d ≡ Some (record { form = form; first = n })
  pub rest : At d n (r ++ tail form)
  pub entries : AreEntries ids r

no-80 : {d : List ℕ} {p v n : ℕ} → Sized d p v n → get_or d p 0 ≡ 0x80 → ⊥
no-80 (short-at e l q f) z = omega arith
no-80 (long-at m e h l u q f) z = omega arith

head_at : (d : List ℕ) (v n : ℕ) → get_or d 0 0 ≡ 0x30 → Sized d 1 v n → n + v ≡ length d → head d ≡ Some (record { form = Definite; first = n })
unfolding head
head_at d v n t s q = simp (t, ne_eqb (get_or d 1 0) 0x80 (no-80 s), sized-length s, eq-eqb (n + v) (length d) q)

head-seen : {d ids : List ℕ} → Encodes ids d → HeadSeen d ids
unfolding head
head-seen {d} {ids} (definite {r} {b} l e) =
    let a : At (0x30 ∷ b) 0 (0x30 ∷ b) = record { start = omega arith; rest = refl } in
    let t = at-cons a in
    let s = length_seen l (omega arith) t.rest in
    let h = head_at (0x30 ∷ b) (length r) s.n t.byte s.sized (sym (at_length s.rest)) in
    record { form = Definite; r = r; n = s.n; is = h; rest = rw append-nil s.rest; entries = e }
head-seen {d} {ids} (indefinite {r} e) = record { form = Indefinite; r = r; n = 2; is = refl; rest = record { start = omega arith; rest = refl }; entries = e }

module _ {d ids : List ℕ} (e : Encodes ids d) where
  abbrev seen : HeadSeen d ids
  seen = head-seen e

  -- an encoding is well formed, and its entries start after its head
  encodes-listed : listed d ≡ Ok seen.n
  unfolding listed
  encodes-listed =
      simp (seen.is, tail-ended d seen.form (walked d seen.n (length d / 4)) (walks-enough (tail seen.form) (tail-zero seen.form) seen.entries seen.rest))

  pub encodes-formed : is_formed d ≡ true
  encodes-formed = ap is_ok encodes-listed

  -- its KeySetIDs are listed from the first place on, and there are places enough
  pub encodes-lists : Lists d (first_entry d) ids
  encodes-lists = rw encodes-listed (lists (tail seen.form) (tail-zero seen.form) seen.entries seen.rest)

  pub encodes-few : length ids ≤ length d / 4
  encodes-few = omega (arith, entries-long seen.entries, at_length seen.rest, length-append seen.r (tail seen.form))

-- the encoding with all lengths in the short form: at most 31 KeySetIDs, so that the list's own length is below 128
short-are : (ids : List ℕ) → AreEntries ids (short_entries ids)
unfolding short_entries
short-are [] = none
short-are (k ∷ ids) = more {k = k} {high = k / 256} {low = k % 256} (omega arith) (short (omega arith)) (short-are ids)

pub length-short : (ids : List ℕ) → length (short_entries ids) ≡ 4 * length ids
unfolding short_entries
length-short [] = refl
length-short (k ∷ ids) = omega (arith, length-short ids)

pub length-encoded : (ids : List ℕ) → length (encoded ids) ≡ 4 * length ids + 2
unfolding encoded
length-encoded ids = omega (arith, length-short ids)

pub encoded-encodes : (ids : List ℕ) → length ids < 32 → Encodes ids (encoded ids)
unfolding encoded
encoded-encodes ids h =
    let l : IsLength (4 * length ids) (short_entries ids) (4 * length ids ∷ short_entries ids) = short (omega arith) in
    definite {r = short_entries ids} {b = 4 * length ids ∷ short_entries ids} (rw (length-short ids) l) (short-are ids)

-- an encoding of KeySetIDs of two bytes is of bytes
short-bytes : (ids : List ℕ) → ((i : ℕ) → get_or ids i 0 < 65536) → Bytes (short_entries ids)
unfolding short_entries
short-bytes [] f i = omega arith
short-bytes (k ∷ ids) f zero = omega arith
short-bytes (k ∷ ids) f (suc zero) = omega arith
short-bytes (k ∷ ids) f (suc (suc zero)) = omega (arith, f 0)
short-bytes (k ∷ ids) f (suc (suc (suc zero))) = omega arith
short-bytes (k ∷ ids) f (suc (suc (suc (suc i)))) = short-bytes ids (λ j. f (suc j)) i

pub encoded-bytes : (ids : List ℕ) → length ids < 32 → ((i : ℕ) → get_or ids i 0 < 65536) → Bytes (encoded ids)
unfolding encoded
encoded-bytes ids h f zero = omega arith
encoded-bytes ids h f (suc zero) = omega arith
encoded-bytes ids h f (suc (suc i)) = short-bytes ids f i

-- the other way: what the definitions take for a length, an entry or a head is one by its bytes
byte_at : (d : List ℕ) (p : ℕ) → p < length d → drop p d ≡ get_or d p 0 ∷ drop (p + 1) d
byte_at d p h = rw (add-one, drop-cons d p 0)

part_at : (d : List ℕ) (p m : ℕ) → drop p d ≡ part d p m ++ drop (p + m) d
unfolding part
part_at d p m = sym (take-append-drop m (drop p d)) ∙ ap (λ (x : List ℕ). take m (drop p d) ++ x) (drop-drop m p d)

is-length : {d : List ℕ} {p v n : ℕ} → Sized d p v n → IsLength v (drop n d) (drop p d)
is-length {d} {p} {v} {n} (short-at e l q f) = rw (q, byte_at d p (omega arith), e) (short l)
is-length {d} {p} {v} {n} (long-at m e z l u q f) =
    let k : length (part d (p + 1) m) ≡ m = length_part d (p + 1) m (omega arith) in
    let r : IsLength v (drop n d) ((0x80 + length (part d (p + 1) m)) ∷ (part d (p + 1) m ++ drop n d)) = long (part d (p + 1) m) (rw k z) (rw k l) u in
    rw (byte_at d p (omega arith), e, part_at d (p + 1) m, ← q) (rw k at r)

-- bytes b that are entries, and t behind them
record Entries (t b : List ℕ) : Type 0 where
  pub ids : List ℕ
  pub front : List ℕ
  pub are : AreEntries ids front
  pub split : b ≡ front ++ t

-- a length with t behind all is one without it
record Front (v : ℕ) (r t b : List ℕ) : Type 0 where
  pub front : List ℕ
  pub is : IsLength v r front
  pub split : b ≡ front ++ t

length_front : {v : ℕ} {b : List ℕ} (r t : List ℕ) → IsLength v (r ++ t) b → Front v r t b
length_front {v} r t (short l) = record { front = v ∷ r; is = short l; split = refl }
length_front {v} r t (long s z l u) = record { front = (0x80 + length s) ∷ (s ++ r); is = long s z l u; split = ap (λ (x : List ℕ). (0x80 + length s) ∷ x) (sym (append_assoc s r t)) }

entry-cons : {t b e r ids : List ℕ} (high low : ℕ) → e ≡ 4 ∷ b → Front 2 (high ∷ low ∷ r) t b → AreEntries ids r → Entries t e
entry-cons {t} {b} {e} {r} {ids} high low q f a =
    record { ids = (high * 256 + low) ∷ ids; front = 4 ∷ f.front; are = more refl f.is a; split = q ∙ ap (λ (x : List ℕ). 4 ∷ x) f.split }

entry_more : (d t : List ℕ) (p m : ℕ) → Seen d p m → Entries t (drop (m + 2) d) → Entries t (drop p d)
entry_more d t p m s e =
    let r = sized-reach s.sized in
    let o : m + 1 + 1 ≡ m + 2 = omega arith in
    let l = rw (byte_at d m (omega arith), byte_at d (m + 1) (omega arith), o, e.split) at (is-length s.sized) in
    let q : drop p d ≡ 4 ∷ drop (p + 1) d = byte_at d p (omega arith) ∙ ap (λ (x : ℕ). x ∷ drop (p + 1) d) s.tag in
    entry-cons (get_or d m 0) (get_or d (m + 1) 0) q (length_front (get_or d m 0 ∷ get_or d (m + 1) 0 ∷ e.front) t l) e.are

entries_by :
    (d t : List ℕ) (n p : ℕ) (e : Option Entry)
    → ((q : ℕ) → drop (walked d q n) d ≡ t → Entries t (drop q d))
    → Case d p e
    → drop (walked d (next_place p e) n) d ≡ t
    → Entries t (drop p d)
entries_by d t n p e f (there m s q) w = entry_more d t p m s (f (m + 2) (rw q at w))
entries_by d t n p e f (missing q) w = f p (rw q at w)

walk-entries : (d t : List ℕ) (n p : ℕ) → drop (walked d p n) d ≡ t → Entries t (drop p d)
unfolding walked
walk-entries d t zero p w = record { ids = []; front = []; are = none; split = w }
walk-entries d t (suc n) p w = entries_by d t n p (entry_at d p) (walk-entries d t n) (entry_case d p) w

-- where the entries end, the data end or the end-of-contents octets stand
ended-tail : (d : List ℕ) (f : Form) (p : ℕ) → ended d f p ≡ true → drop p d ≡ tail f
unfolding ended
ended-tail d Definite p t = rw (eqb-true p (length d) t) (drop-length d)
ended-tail d Indefinite p t =
    let h = (and-eq-true_iff (eqb (p + 2) (length d)) _).0 t in
    let z = (and-eq-true_iff (eqb (get_or d p 0) 0) _).0 h.1 in
    let l = eqb-true (p + 2) (length d) h.0 in
    let o : p + 1 + 1 ≡ length d = omega arith in
    rw (byte_at d p (omega arith), byte_at d (p + 1) (omega arith), o, drop-length d, eqb-true (get_or d p 0) 0 z.0, eqb-true (get_or d (p + 1) 0) 0 z.1)

-- well formed data are an encoding
pub record Decoded (d : List ℕ) : Type 0 where
  pub ids : List ℕ
  pub encodes : Encodes ids d

definite-by : (d : List ℕ) (v n : ℕ) → get_or d 0 0 ≡ 0x30 → Sized d 1 v n → n + v ≡ length d → Entries [] (drop n d) → Decoded d
definite-by d v n t s q e =
    let r = sized-reach s in
    let x : drop n d ≡ e.front = e.split ∙ append-nil e.front in
    let z : v ≡ length e.front = omega (arith, sym (length-drop n d) ∙ ap length x) in
    let h : d ≡ 0x30 ∷ drop 1 d = byte_at d 0 (omega arith) ∙ ap (λ (x : ℕ). x ∷ drop 1 d) t in
    record { ids = e.ids; encodes = subst⁻¹ (λ (x : List ℕ). Encodes e.ids x) h (definite (rw (z, x) at (is-length s)) e.are) }

-- a byte that is not zero is there
there-at : (d : List ℕ) (p : ℕ) → 0 < get_or d p 0 → p < length d
there-at [] p h = omega arith
there-at (x ∷ d) zero h = omega arith
there-at (x ∷ d) (suc p) h = omega (arith, there-at d p h)

indefinite-by : (d : List ℕ) → get_or d 0 0 ≡ 0x30 → get_or d 1 0 ≡ 0x80 → Entries (0 ∷ 0 ∷ []) (drop 2 d) → Decoded d
indefinite-by d t u e =
    let l = there-at d 1 (omega arith) in
    let h : d ≡ 0x30 ∷ 0x80 ∷ (e.front ++ (0 ∷ 0 ∷ [])) = byte_at d 0 (omega arith) ∙ rw (t, byte_at d 1 (omega arith), u, e.split) in
    record { ids = e.ids; encodes = subst⁻¹ (λ (x : List ℕ). Encodes e.ids x) h (indefinite e.are) }

ok-first : (b : Bool) (n : ℕ) → is_ok (cond b (Ok n) (Err n)) ≡ true → b ≡ true
ok-first true n e = refl
ok-first false n e = absurd (false≢true e)

decoded-by : (d : List ℕ) (h : Option Outer) → HeadCase d (length_at d 1) h → is_ok (listed_from d h) ≡ true → Decoded d
decoded-by d h (right l t o q i) f =
    let w = ended-tail d Definite (walked d l.next (length d / 4)) (ok-first _ _ (rw i at f)) in
    definite-by d l.value l.next t (length-sized d 1 l o) q (walk-entries d [] (length d / 4) l.next w)
decoded-by d h (open-end t u i) f =
    let w = ended-tail d Indefinite (walked d 2 (length d / 4)) (ok-first _ _ (rw i at f)) in
    indefinite-by d t u (walk-entries d (0 ∷ 0 ∷ []) (length d / 4) 2 w)
decoded-by d h (wrong i) f = absurd (false≢true (rw i at f))

pub formed-encodes : (d : List ℕ) → is_formed d ≡ true → Decoded d
unfolding listed
formed-encodes d t = decoded-by d (head d) (head-case d) t

-- and of one list only
both_by : (e : Option Entry) (n : Entry) → e ≡ None → e ≡ Some n → ⊥
both_by e n q r = cc

one_list : {d ids ids' : List ℕ} {p : ℕ} → Lists d p ids → Lists d p ids' → ids ≡ ids'
one_list (ends e) (ends f) = refl
one_list (ends e) (goes_on f v) = absurd (both_by _ _ e f)
one_list (goes_on e w) (ends f) = absurd (both_by _ _ f e)
one_list {d} (goes_on {n = n} {k = k} {ids = ids} e w) (goes_on {n = n'} {k = k'} {ids = ids'} f v) =
    let q = sym e ∙ f in
    let m = ap (next_place 0) q in
    ap₂ (λ (x : ℕ) (y : List ℕ). x ∷ y) (ap (λ (x : Option Entry). (entry_id x).0) q) (one_list w (subst⁻¹ (λ (x : ℕ). Lists d x ids') m v))

pub encodes_one : {d ids ids' : List ℕ} → Encodes ids d → Encodes ids' d → ids ≡ ids'
encodes_one e f = one_list (encodes-lists e) (encodes-lists f)
