-- What a conversion returns and leaves, told by its number; and a test of every element as a loop makes it. Assumes nothing.
use Rattle.std.specs.Prelude.{◌≡◌, refl, Bool, true, false, cond, ◌&&◌, ◌||◌, not, List, ℕ, suc, ◌+◌, ◌<◌, ◌≤◌, eqb, ltb, length, get_or, drop, ◌++◌, Result, Ok, Err, IfOk}
use Rattle.std.proofs.Common.{sym, ap, ◌∙◌, add-one, arith, eq-eqb, ne_eqb, eqb-true, le-ltb, ltb-false, append-nil, drop_of_length-le, drop-cons}
use Rattle.std.proofs.Math.Bool.{and-true, and_assoc}
use Rattle.std.proofs.lemmas.Bool.{not-false}
use Rattle.octets.specs.Lists.{over}
use Rattle.octets.specs.Writes.{over-front}
use Rattle.refusals.specs.Numbers.{number_of}
use Rattle.refusals.specs.Laws.{number-some}
use Rattle.refusals.specs.declared.Refusal.{Refusal}
use Rattle.conversion.specs.Conversion.{misfit, made, converted, output_after, each}
use Rattle.conversion.specs.Told.{told, left, Gives}
use Rattle.conversion.specs.declared.Converted.{Converted}

-- what an operation with this number and result owes its caller, by what it returns and leaves
abbrev pub Answers : ℕ → List ℕ → List ℕ → Converted → List ℕ → Type 0
Answers number result out r out' = (r ≡ converted number result) × (out' ≡ output_after number result out)

pub answer-declined : (n : ℕ) (result out : List ℕ) {number : ℕ} {r : Converted} → number ≡ n → (n ≡ 0 → ⊥) → r ≡ record { number = n; length = 0 } → Answers number result out r out
unfolding converted output_after
answer-declined n result out e h q = let z = ne_eqb n 0 h in (q ∙ simp (e, z), simp (e, z))

pub answer-made : (result out : List ℕ) {number : ℕ} {r : Converted} {out' : List ℕ} → number ≡ 0 → r ≡ made result → out' ≡ over out 0 result → Answers number result out r out'
unfolding converted output_after
answer-made result out e q w = (q ∙ simp e, w ∙ simp e)

answer-refused : (n : ℕ) (result out : List ℕ) (f : Refusal) {r : Converted} {out' : List ℕ} → n ≡ number_of f → r ≡ record { number = number_of f; length = 0 } → out' ≡ out → Answers n result out r out'
unfolding converted output_after
answer-refused n result out f e q w = let z = ne_eqb n 0 (λ k. omega (arith, number-some f)) in (q ∙ simp z (simp e), w ∙ simp z)

-- a conversion that gives its result or its refusal answers by it
pub answer-given : (n : ℕ) (result out : List ℕ) (g : Result (List ℕ) Refusal) {r : Converted} {out' : List ℕ} → Gives n result g → r ≡ told g → out' ≡ left g out → Answers n result out r out'
answer-given n result out (Ok s) h q w = answer-made result out h.0 (q ∙ ap made h.1) (w ∙ ap (over out 0) h.1)
answer-given n result out (Err f) h q w = answer-refused n result out f h q w

-- what the number 0 shows holds where there is a result
pub given-ok : {P : Type 0} (n : ℕ) (result : List ℕ) (g : Result (List ℕ) Refusal) → Gives n result g → (n ≡ 0 → P) → IfOk g (λ _. P)
given-ok n result (Ok s) h k = k h.0
given-ok n result (Err f) h k = tt

-- a result that is as long as the whole output
pub over-all : (d s : List ℕ) → length d ≤ length s → over d 0 s ≡ s
over-all d s h = over-front d s ∙ ap (λ (l : List ℕ). s ++ l) (drop_of_length-le d h) ∙ append-nil s

-- a refusal by the first of the tests
pub first-refused : (m : Bool) (k n : ℕ) (r : Refusal) → number_of r ≡ cond m k 0 → cond m k n ≡ number_of r
first-refused true k n r e = sym e
first-refused false k n r e = absurd (omega (arith, number-some r))

-- the number that is returned is the conversion's
number_by : (number : ℕ) (result : List ℕ) (t : Bool) → eqb number 0 ≡ t → (converted number result).number ≡ number
unfolding converted
number_by number result true e = simp e (sym (eqb-true number 0 e))
number_by number result false e = simp e refl

pub number_is : (number : ℕ) (result : List ℕ) → (converted number result).number ≡ number
number_is number result = number_by number result (eqb number 0) refl

pub or-false : (a b : Bool) → (a || b) ≡ false → (a ≡ false) × (b ≡ false)
or-false true b e = absurd (let z : ◌≡◌ {A = ℕ} 0 1 = cc in omega arith)
or-false false b e = (refl, e)

-- what a length and an output that fit have shown
pub fits : (n wanted room result : ℕ) → misfit n wanted room result ≡ false → (n ≡ wanted) × (result ≤ room)
unfolding misfit
fits n wanted room result e =
    let p = or-false (not (eqb n wanted)) (ltb room result) e in
    (eqb-true n wanted (not-false (eqb n wanted) p.0), ltb-false room result p.1)

pub no-misfit : (n wanted room result : ℕ) → n ≡ wanted → result ≤ room → misfit n wanted room result ≡ false
unfolding misfit
no-misfit n wanted room result e h = simp (eq-eqb n wanted e, le-ltb room result h)

-- where no decline applies, the first does not, nor one of the others
pub undeclined : (a : Bool) (k n : ℕ) → cond a (suc k) n ≡ 0 → (a ≡ false) × (n ≡ 0)
undeclined true k n e = absurd (omega arith)
undeclined false k n e = (refl, e)

-- a test of every element: what was seen, and what the rest says, is what all say. One turn, and the end
pub each_turn : (p : ℕ → Bool) (s : List ℕ) (i : ℕ) (r v : Bool) {r' : Bool} → i < length s → v ≡ p (get_or s i 0) → r' ≡ (r && v) →
    (r && each p (drop i s)) ≡ each p s → (r' && each p (drop (i + 1) s)) ≡ each p s
each_turn p s i r v h e q inv =
    let rest : Bool = each p (drop (i + 1) s) in
    let more : each p (drop i s) ≡ (p (get_or s i 0) && rest) = rw (add-one, drop-cons s i 0 h) in
    ap (λ (x : Bool). x && rest) (q ∙ ap (λ (x : Bool). r && x) e)
    ∙ and_assoc r (p (get_or s i 0)) rest
    ∙ ap (λ (x : Bool). r && x) (sym more)
    ∙ inv

pub each-done : (p : ℕ → Bool) (s : List ℕ) (i : ℕ) (r : Bool) → length s ≤ i → (r && each p (drop i s)) ≡ each p s → r ≡ each p s
each-done p s i r h inv = sym (rw (drop_of_length-le s h) (and-true r)) ∙ inv
