-- Laws of the frame and of what is checked before a command is run: the bytes of a frame are those of the command, and what a call that is not
-- declined has shown. Assumes nothing.
use Rattle.std.specs.Prelude.{◌≡◌, refl, Bool, true, false, cond, ◌&&◌, List, ◌++◌, ℕ, ◌+◌, ◌-◌, ◌<◌, ◌≤◌, eqb, ltb, length, get_or, drop, Result, Ok, Err}
use Rattle.std.specs.Result.{IsErrAnd}
use Rattle.std.proofs.Common.{sym, ap, ◌∙◌, arith, length-drop, drop_of_length-le, get_or-append-add}
use Rattle.std.proofs.Math.Bool.{and-eq-true_iff, and-true}
use borrow.Author.Tests.{eqb-true, ltb-true, ltb-false, eq-eqb, lt-ltb, le-ltb}
use Rattle.std.proofs.Math.ListN.{get_or-append}
use Rattle.octets.specs.Lists.{part, length_part, get_or-part}
use Rattle.plaid_types.specs.Keys.{str1_length}
use Rattle.plaid_types.specs.Tries.{is_interface}
use Rattle.frame.specs.Frame.{frame_of, cla_of, ins_of, p1_of, p2_of, lc_of, le_of, known_ins, whole, status_of, data_of}
use Rattle.refusals.specs.declared.Refusal.{Refusal}
use Rattle.frame.specs.declared.Fault.{Fault}
use Rattle.frame.specs.declared.Fault.TheVariants.{WrongLength, WrongClass, WrongInstruction, WrongParameters}
use Rattle.frame.specs.declared.Decline.{Decline}
use Rattle.frame.specs.declared.Decline.TheVariants as decline
use Rattle.frame.specs.Told.{fault_status, FromNumber, FromFault, decline_told, verdict_told}
use Rattle.frame.specs.Declines.{Verdict, no_zero, pad_bytes, verdict}

-- fewer than six bytes are the frame
short-by : (c : List ℕ) (t : Bool) → ltb (length c) 6 ≡ t → length c < 6 → cond t c (part c 0 5 ++ part c (length c - 1) 1) ≡ c
short-by c true e h = refl
short-by c false e h = absurd (omega (arith, ltb-false (length c) 6 e))

pub frame-short : (c : List ℕ) → length c < 6 → frame_of c ≡ c
unfolding frame_of
frame-short c h = short-by c (ltb (length c) 6) refl h

-- the first five bytes of the frame are those of the command
byte-by : (c : List ℕ) (i : ℕ) (t : Bool) → ltb (length c) 6 ≡ t → i < 5 → get_or (cond t c (part c 0 5 ++ part c (length c - 1) 1)) i 0 ≡ get_or c i 0
byte-by c i true e h = refl
byte-by c i false e h =
    let n = ltb-false (length c) 6 e in
    get_or-append (part c 0 5) (part c (length c - 1) 1) 0 i (omega (arith, length_part c 0 5 (omega arith)))
    ∙ get_or-part c 0 5 i 0 h
    ∙ ap (λ (k : ℕ). get_or c k 0) (omega arith)

pub frame_byte : (c : List ℕ) (i : ℕ) → i < 5 → get_or (frame_of c) i 0 ≡ get_or c i 0
unfolding frame_of
frame_byte c i h = byte-by c i (ltb (length c) 6) refl h

-- and the sixth is the last
last-by : (c : List ℕ) (t : Bool) → ltb (length c) 6 ≡ t → 6 ≤ length c → le_of (cond t c (part c 0 5 ++ part c (length c - 1) 1)) ≡ get_or c (length c - 1) 0
last-by c true e h = absurd (omega (arith, ltb-true (length c) 6 e))
last-by c false e h =
    let k : 5 ≡ length (part c 0 5) + 0 = omega (arith, length_part c 0 5 (omega arith)) in
    ap (λ (k : ℕ). get_or (part c 0 5 ++ part c (length c - 1) 1) k 0) k
    ∙ get_or-append-add (part c 0 5) (part c (length c - 1) 1) 0 0
    ∙ get_or-part c (length c - 1) 1 0 0 (omega arith)
    ∙ ap (λ (k : ℕ). get_or c k 0) (omega arith)

pub frame-last : (c : List ℕ) → 6 ≤ length c → le_of (frame_of c) ≡ get_or c (length c - 1) 0
unfolding frame_of
frame-last c h = last-by c (ltb (length c) 6) refl h

-- a frame is whole by its Lc, its total and its Le
pub whole_is : (n : ℕ) (f : List ℕ) → 0 < lc_of f → n ≡ lc_of f + 6 → le_of f ≡ 0 → whole n f ≡ true
unfolding whole
whole_is n f a b c = simp (lt-ltb 0 (lc_of f) a, eq-eqb n (lc_of f + 6) b, eq-eqb (le_of f) 0 c)

not-by : (n : ℕ) (f : List ℕ) (t : Bool) → whole n f ≡ t → (0 < lc_of f → n ≡ lc_of f + 6 → le_of f ≡ 0 → ⊥) → t ≡ false
unfolding whole
not-by n f true e h =
    let a = (and-eq-true_iff _ _).0 e in
    let b = (and-eq-true_iff _ _).0 a.1 in
    absurd (h (ltb-true 0 (lc_of f) a.0) (eqb-true n (lc_of f + 6) b.0) (eqb-true (le_of f) 0 b.1))
not-by n f false e h = refl

pub whole-not : (n : ℕ) (f : List ℕ) → (0 < lc_of f → n ≡ lc_of f + 6 → le_of f ≡ 0 → ⊥) → whole n f ≡ false
whole-not n f h = not-by n f (whole n f) refl h

-- what a frame f of n bytes in all has that is without fault
pub record Faultless (n : ℕ) (f : List ℕ) : Type 0 where
  pub cla : cla_of f ≡ 0
  pub known : known_ins (ins_of f) ≡ true
  pub p1 : p1_of f ≡ 0
  pub p2 : p2_of f ≡ 0
  pub some : 0 < lc_of f
  pub total : n ≡ lc_of f + 6
  pub le : le_of f ≡ 0

faultless-by : (n : ℕ) (f : List ℕ) (s t u v w : Bool) →
    ltb n 4 ≡ s →
    eqb (cla_of f) 0 ≡ t →
    known_ins (ins_of f) ≡ u →
    (eqb (p1_of f) 0 && eqb (p2_of f) 0) ≡ v →
    whole n f ≡ w →
    ◌≡◌ {A = ℕ} (cond s 0x6700 (cond t (cond u (cond v (cond w 0x9000 0x6700) 0x6A86) 0x6D00) 0x6E00)) 0x9000 →
    Faultless n f
unfolding whole
faultless-by n f true t u v w es et eu ev ew q = absurd (omega arith)
faultless-by n f false false u v w es et eu ev ew q = absurd (omega arith)
faultless-by n f false true false v w es et eu ev ew q = absurd (omega arith)
faultless-by n f false true true false w es et eu ev ew q = absurd (omega arith)
faultless-by n f false true true true false es et eu ev ew q = absurd (omega arith)
faultless-by n f false true true true true es et eu ev ew q =
    let p = (and-eq-true_iff _ _).0 ev in
    let a = (and-eq-true_iff _ _).0 ew in
    let b = (and-eq-true_iff _ _).0 a.1 in
    record {
      cla = eqb-true (cla_of f) 0 et;
      known = eu;
      p1 = eqb-true (p1_of f) 0 p.0;
      p2 = eqb-true (p2_of f) 0 p.1;
      some = ltb-true 0 (lc_of f) a.0;
      total = eqb-true n (lc_of f + 6) b.0;
      le = eqb-true (le_of f) 0 b.1;
    }

-- status 9000 is given of such a frame alone, and no status is 0
pub faultless : (n : ℕ) (f : List ℕ) → status_of n f ≡ 0x9000 → Faultless n f
unfolding status_of
faultless n f q =
    faultless-by n f (ltb n 4) (eqb (cla_of f) 0) (known_ins (ins_of f)) (eqb (p1_of f) 0 && eqb (p2_of f) 0) (whole n f) refl refl refl refl refl q

-- what `?` tells of a refusal, and of a fault of the frame
pub told-number : {A : Type 0} (o : Result A Decline) (r : Refusal) → IsErrAnd o (FromNumber r) → verdict_told o ≡ decline_told (decline.Number r)
told-number (Ok x) r h = absurd h
told-number (Err d) r h = ap decline_told h

pub told-fault : {A : Type 0} (o : Result A Decline) (s : Fault) → IsErrAnd o (FromFault s) → verdict_told o ≡ decline_told (decline.Status s)
told-fault (Ok x) s h = absurd h
told-fault (Err d) s h = ap decline_told h

-- the status is 9000 where nothing is declined, and there alone
pub told-ok : {A : Type 0} (o : Result A Decline) → ((d : Decline) → o ≡ Err d → ⊥) → (verdict_told o).status ≡ 0x9000
told-ok (Ok x) h = refl
told-ok (Err d) h = absurd (h d refl)

fault-not : (s : Fault) → fault_status s ≡ 0x9000 → ⊥
fault-not WrongLength e = omega arith
fault-not WrongClass e = omega arith
fault-not WrongInstruction e = omega arith
fault-not WrongParameters e = omega arith

pub told-err : (d : Decline) → (decline_told d).status ≡ 0x9000 → ⊥
told-err (decline.Number r) e = omega arith
told-err (decline.Status s) e = fault-not s e

-- the verdict, by the tests that led there
module _ (i l n : ℕ) (f fresh : List ℕ) (room : ℕ) where
  pub says-26 : is_interface i ≡ false → record { number = 26; status = 0 } ≡ verdict i l n f fresh room
  unfolding verdict
  says-26 a = rw a

  module _ (a : is_interface i ≡ true) where
    pub says-8 : eqb (length fresh) 253 ≡ false → record { number = 8; status = 0 } ≡ verdict i l n f fresh room
    unfolding verdict
    says-8 b = rw (a, b)

    module _ (b : eqb (length fresh) 253 ≡ true) where
      pub says-9 : no_zero (pad_bytes l fresh) ≡ false → record { number = 9; status = 0 } ≡ verdict i l n f fresh room
      unfolding verdict
      says-9 c = rw (a, b, c)

      module _ (c : no_zero (pad_bytes l fresh) ≡ true) where
        pub says-10 : room < 256 → record { number = 10; status = 0 } ≡ verdict i l n f fresh room
        unfolding verdict
        says-10 h = rw (a, b, c, lt-ltb room 256 h)

        pub says-status : 256 ≤ room → (s : ℕ) → s ≡ status_of n f → record { number = 0; status = s } ≡ verdict i l n f fresh room
        unfolding verdict
        says-status h s e = rw (a, b, c, le-ltb room 256 h, e)

-- what a call has shown that is not declined
pub record Passed (i l n : ℕ) (f fresh : List ℕ) (room : ℕ) : Type 0 where
  pub interface-known : is_interface i ≡ true
  pub fresh-long : length fresh ≡ 253
  pub pad-nonzero : no_zero (pad_bytes l fresh) ≡ true
  pub room-enough : 256 ≤ room
  pub status : status_of n f ≡ 0x9000
  pub frame : Faultless n f
  pub answer : verdict i l n f fresh room ≡ record { number = 0; status = 0x9000 }

passed-by : (i l n : ℕ) (f fresh : List ℕ) (room : ℕ) (r s t u : Bool) (v : Verdict) →
    is_interface i ≡ r →
    eqb (length fresh) 253 ≡ s →
    no_zero (pad_bytes l fresh) ≡ t →
    ltb room 256 ≡ u →
    cond r (cond s (cond t (cond u (record { number = 10; status = 0 }) (record { number = 0; status = status_of n f })) (record { number = 9; status = 0 })) (record { number = 8; status = 0 })) (record { number = 26; status = 0 }) ≡ v →
    v.status ≡ 0x9000 →
    verdict i l n f fresh room ≡ v →
    Passed i l n f fresh room
passed-by i l n f fresh room false s t u v er es et eu e q a = absurd (omega (arith, ap (λ (w : Verdict). w.status) e))
passed-by i l n f fresh room true false t u v er es et eu e q a = absurd (omega (arith, ap (λ (w : Verdict). w.status) e))
passed-by i l n f fresh room true true false u v er es et eu e q a = absurd (omega (arith, ap (λ (w : Verdict). w.status) e))
passed-by i l n f fresh room true true true true v er es et eu e q a = absurd (omega (arith, ap (λ (w : Verdict). w.status) e))
passed-by i l n f fresh room true true true false v er es et eu e q a =
    let z : status_of n f ≡ 0x9000 = ap (λ (w : Verdict). w.status) e ∙ q in
    record {
      interface-known = er;
      fresh-long = eqb-true (length fresh) 253 es;
      pad-nonzero = et;
      room-enough = ltb-false room 256 eu;
      status = z;
      frame = faultless n f z;
      answer = a ∙ sym e ∙ ap (λ (k : ℕ). record { number = 0; status = k }) z;
    }

pub passed : (i l n : ℕ) (f fresh : List ℕ) (room : ℕ) → (verdict i l n f fresh room).status ≡ 0x9000 → Passed i l n f fresh room
unfolding verdict
passed i l n f fresh room q =
    passed-by i l n f fresh room (is_interface i) (eqb (length fresh) 253) (no_zero (pad_bytes l fresh)) (ltb room 256) (verdict i l n f fresh room) refl refl refl refl refl q refl

-- the command of a faultless frame: its length, its INS, and its data
pub command-long : (c : List ℕ) → Faultless (length c) (frame_of c) → 7 ≤ length c
command-long c k = omega arith

pub command-ins : (c : List ℕ) → ins_of (frame_of c) ≡ get_or c 1 0
command-ins c = frame_byte c 1 (omega arith)

pub data-long : (c : List ℕ) → Faultless (length c) (frame_of c) → length (data_of c) ≡ lc_of (frame_of c)
unfolding data_of
data-long c k = length_part c 5 (length c - 6) (omega arith) ∙ omega arith

pub length-pads : (l : ℕ) (fresh : List ℕ) → length fresh ≡ 253 → length (pad_bytes l fresh) ≡ 253 - str1_length l
unfolding pad_bytes
length-pads l fresh e = omega (arith, length-drop (str1_length l) fresh)

-- the look for a zero byte ends where the list does
pub zero-done : (s : List ℕ) (i : ℕ) (ok all : Bool) → length s ≤ i → (ok && no_zero (drop i s)) ≡ all → ok ≡ all
zero-done s i ok all h e = sym (ap (λ (l : List ℕ). ok && no_zero l) (drop_of_length-le s {i = i} h) ∙ and-true ok) ∙ e
