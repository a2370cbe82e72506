-- How the tests on a deciphered text come to `authenticated` and `acceptable`. Assumes nothing.
use mathlib.Core.Path.{◌≡◌, refl, sym, ap, ◌∙◌}
use mathlib.Core.Bool.{Bool, true, false, cond, ◌&&◌}
use mathlib.Core.List.{List}
use Prim.Native.Nat.{ℕ, zero, suc, ◌-◌, ◌≤◌}
use native.Mathlib.Omega.{arith}
use borrow.Author.Tests.{le-leb, lt-leb}
use Rattle.std.specs.Prelude.{Option, Some, None, unwrap_or}
use Rattle.octets.specs.Bytes.{same}
use Rattle.octets.specs.Lists.{part}
use Rattle.padding.specs.Method2.{rightly, unpadded}
use Rattle.reader_accept.specs.Accept.{text_length, right_body, authenticated, body_length, has_record, acceptable}

-- a text of 17 to 80 bytes has the right body where its last sixteen equal DivData
pub body_is : (s : List ℕ) (t : ℕ) (div : List ℕ) {b : List ℕ} {r : Bool} → 17 ≤ t → t ≤ 80 → b ≡ part s (t - 16) 16 → r ≡ same b div → right_body s t div ≡ r
unfolding right_body
body_is s t div {b} {r} h l q e = simp (le-leb 17 t h, le-leb t 80 l) (ap (λ (x : List ℕ). same x div) (sym q) ∙ sym e)

text-by : (s div : List ℕ) (t : ℕ) (b : Bool) → Some t ≡ cond b (Some (text_length s)) None →
    cond (right_body s t div) (Some (t - 16)) None ≡ cond (b && right_body s (text_length s) div) (Some (body_length s)) None
text-by s div t true e = let m : t ≡ text_length s = cc in rw m
text-by s div t false e = cc

pub judged-text : (s div : List ℕ) (t : ℕ) → Some t ≡ unpadded s →
    cond (right_body s t div) (Some (t - 16)) None ≡ cond (authenticated s div) (Some (body_length s)) None
unfolding unpadded authenticated
judged-text s div t e = text-by s div t (rightly s) e

malformed-by : (s div : List ℕ) (b : Bool) → None ≡ cond b (Some (text_length s)) None →
    None ≡ cond (b && right_body s (text_length s) div) (Some (body_length s)) None
malformed-by s div true e = cc
malformed-by s div false e = refl

pub judged-malformed : (s div : List ℕ) → None ≡ unpadded s → None ≡ cond (authenticated s div) (Some (body_length s)) None
unfolding unpadded authenticated
judged-malformed s div e = malformed-by s div (rightly s) e

-- where nothing is authenticated the length is taken for 0
pub length-judged : (b : Bool) (n : ℕ) {o : Option ℕ} {r : ℕ} → o ≡ cond b (Some n) None → r ≡ unwrap_or o 0 → r ≡ cond b n 0
length-judged true n e q = rw e at q
length-judged false n e q = rw e at q

-- and there is no record in 0 bytes
none_in : (len : ℕ) → has_record len 0 ≡ false
unfolding has_record
none_in zero = refl
none_in (suc len) = simp (le-leb 1 (suc len) (omega arith), lt-leb (suc len) 0 (omega arith))

in-judged : (len body : ℕ) (b : Bool) → has_record len (cond b body 0) ≡ b && has_record len body
in-judged len body true = refl
in-judged len body false = none_in len

-- so the test of that length is the whole test
pub has-acceptable : (s div : List ℕ) (len : ℕ) {r : ℕ} {a : Bool} → r ≡ cond (authenticated s div) (body_length s) 0 → a ≡ has_record len r → a ≡ acceptable s div len
unfolding acceptable
has-acceptable s div len q e = e ∙ ap (has_record len) q ∙ in-judged len (body_length s) (authenticated s div)
