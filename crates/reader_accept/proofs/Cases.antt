-- The ways out of `fault` and of `accept_in`: the number, what is handed back and what the work buffer has, in each case of the definitions. Assumes nothing.
use mathlib.Core.Path.{◌≡◌, refl, sym, ap, ◌∙◌}
use mathlib.Core.Bool.{Bool, true, false, cond, not}
use mathlib.Core.List.{List}
use Prim.Native.Nat.{ℕ, ◌<◌, ◌≤◌}
use native.Mathlib.Omega.{arith}
use borrow.Author.Tests.{eq-eqb, ne_eqb, lt-ltb, le-ltb}
use lib.Dec.{ltb}
use lib.ListN.{length, take, replicate, length-replicate}
use Rattle.octets.specs.Lists.{over}
use Rattle.octets.specs.Writes.{take-over}
use Rattle.key_expansion.specs.KeyLength.{is_key_length}
use Rattle.refusals.specs.declared.Refusal.{Refusal}
use Rattle.refusals.specs.Numbers.{number_of as refusal_number}
use Rattle.refusals.specs.Laws.{number-some}
use Rattle.plaid_types.specs.Keys.{bytes_of, of_length}
use Rattle.plaid_types.specs.KeyLaws.{value-bytes}
use Rattle.plaid_types.specs.declared.Value.{Value}
use Rattle.reader_accept.specs.Accept.{deciphered_text, authenticated, body_length, has_record, acceptable, known_length, accept_number, number_of, accepted_of, work_after}
use Rattle.reader_accept.proofs.Laws.{known, length-text, Seen, number-none, number-seen}
use Rattle.reader_accept.specs.declared.Accepted.{Accepted}
use Rattle.reader_accept.proofs.Writes.{over-again}
use Rattle.reader_accept.proofs.Tests.{has-acceptable}

module _ (l : ℕ) (hash : Value) (n room : ℕ) where
  abbrev Fault : ℕ
  Fault = accept_number l hash n room true

  pub length-other : is_key_length l ≡ false → 21 ≡ Fault
  unfolding accept_number
  length-other e = simp e

  module _ (one : is_key_length l ≡ true) where
    pub hash-other : (hash.length ≡ l → ⊥) → 22 ≡ Fault
    unfolding accept_number
    hash-other h = simp (one, ne_eqb hash.length l h)

    module _ (right : hash.length ≡ l) where
      pub length-unknown : known_length n ≡ false → 18 ≡ Fault
      unfolding accept_number
      length-unknown k = simp (one, eq-eqb hash.length l right, k)

      module _ (k : known_length n ≡ true) where
        pub work-short : room < n → 19 ≡ Fault
        unfolding accept_number
        work-short h = simp (one, eq-eqb hash.length l right, k, lt-ltb room n h)

        pub no-fault : n ≤ room → 0 ≡ Fault
        unfolding accept_number
        no-fault h = simp (one, eq-eqb hash.length l right, k, le-ltb room n h)

-- what is known after `fault` if it finds none
pub seen : {l : ℕ} {hash : Value} {n room : ℕ} → 0 ≡ accept_number l hash n room true → Seen l hash n room
seen {l} {hash} {n} {room} e = (number-none l hash n room true (sym e)).0

-- where it finds one, that is the number of any response, and not 20
fault-by : (s t u v ok : Bool) → (◌≡◌ {A = ℕ} (cond s 21 (cond t 22 (cond u 18 (cond v 19 0)))) 0 → ⊥) →
    (◌≡◌ {A = ℕ} (cond s 21 (cond t 22 (cond u 18 (cond v 19 (cond ok 0 20))))) (cond s 21 (cond t 22 (cond u 18 (cond v 19 0)))))
    × (◌≡◌ {A = ℕ} (cond s 21 (cond t 22 (cond u 18 (cond v 19 0)))) 20 → ⊥)
fault-by true t u v ok z = (refl, λ e. omega arith)
fault-by false true u v ok z = (refl, λ e. omega arith)
fault-by false false true v ok z = (refl, λ e. omega arith)
fault-by false false false true ok z = (refl, λ e. omega arith)
fault-by false false false false ok z = absurd (z refl)

fault-is : (l : ℕ) (hash : Value) (n room : ℕ) (ok : Bool) → (accept_number l hash n room true ≡ 0 → ⊥) →
    (accept_number l hash n room ok ≡ accept_number l hash n room true) × (accept_number l hash n room true ≡ 20 → ⊥)
unfolding accept_number
fault-is l hash n room ok z = fault-by (not (is_key_length l)) (not (of_length l hash)) (not (known_length n)) (ltb room n) ok z

module _ (l : ℕ) (hash : Value) (div : List ℕ) (len : ℕ) (response work : List ℕ) where
  -- the number, and the work buffer
  abbrev Answer : ℕ → List ℕ → Type 0
  Answer k e = (k ≡ number_of l hash div len response (length work)) × (e ≡ work_after l hash div len response work)

  pub not-deciphered : {f : ℕ} → f ≡ accept_number l hash (length response) (length work) true → (f ≡ 0 → ⊥) → Answer f work
  unfolding work_after
  not-deciphered {f} ef z =
      let k = fault-is l hash (length response) (length work) (acceptable (deciphered_text (bytes_of hash) response) div len) (λ q. z (ef ∙ q)) in
      let n : number_of l hash div len response (length work) ≡ f = k.0 ∙ sym ef in
      let a = ne_eqb f 0 z in
      let b = ne_eqb f 20 (λ q. k.1 (sym ef ∙ q)) in
      (sym n, simp (n, a, b))

  -- what is returned
  pub declined : (r : Refusal) {k : ℕ} → refusal_number r ≡ number_of l hash div len response (length work) → k ≡ refusal_number r →
      ◌≡◌ {A = Accepted} (record { number = k; length = 0 }) (accepted_of l hash div len response (length work))
  unfolding accepted_of
  declined r {k} e q =
      let n : number_of l hash div len response (length work) ≡ k = sym (q ∙ e) in
      let a = ne_eqb k 0 (λ z. omega (arith, number-some r)) in
      simp (n, a)

  pub returned : {k : ℕ} → 0 ≡ number_of l hash div len response (length work) → k ≡ len →
      ◌≡◌ {A = Accepted} (record { number = 0; length = k }) (accepted_of l hash div len response (length work))
  unfolding accepted_of
  returned {k} e q = let n : number_of l hash div len response (length work) ≡ 0 = sym e in simp (n, q)

  module _ (ef : 0 ≡ accept_number l hash (length response) (length work) true) where
    gone : Seen l hash (length response) (length work)
    gone = seen ef

    key : List ℕ
    key = bytes_of hash

    long : length (deciphered_text key response) ≡ length response
    long = length-text key response (known (length response) gone.length-known).whole

    -- what was judged is the deciphered text
    judged-is : {e : List ℕ} {r : ℕ} → e ≡ over work 0 (deciphered_text key response) →
        r ≡ cond (authenticated (take (length response) e) div) (body_length (take (length response) e)) 0 →
        r ≡ cond (authenticated (deciphered_text key response) div) (body_length (deciphered_text key response)) 0
    judged-is q j = rw (ap (take (length response)) q ∙ take-over work (deciphered_text key response) (length response) long) at j

    module _ {e : List ℕ} {r : ℕ} {a : Bool} (q' : e ≡ over work 0 (deciphered_text (take l hash.bytes) response))
        (j : r ≡ cond (authenticated (take (length response) e) div) (body_length (take (length response) e)) 0) (p : a ≡ has_record len r) where
      q : e ≡ over work 0 (deciphered_text key response)
      unfolding key
      q = q' ∙ ap (λ (k : List ℕ). over work 0 (deciphered_text k response)) (value-bytes l hash gone.hash-right)

      number_is : number_of l hash div len response (length work) ≡ cond a 0 20
      unfolding key
      number_is =
          let s : List ℕ = deciphered_text key response in
          number-seen l hash (length response) (length work) (acceptable s div len) gone
          ∙ ap (λ (b : Bool). cond b 0 20) (sym (has-acceptable s div len (judged-is q j) p))

      pub text-refused : {e' : List ℕ} → a ≡ false → e' ≡ over e 0 (replicate (length response) 0) → Answer 20 e'
      unfolding work_after key
      text-refused {e'} t w =
          let s : List ℕ = deciphered_text key response in
          let n : number_of l hash div len response (length work) ≡ 20 = number_is ∙ ap (λ (b : Bool). cond b 0 20) t in
          let o : List ℕ = replicate (length response) 0 in (
            sym n,
            simp n (w ∙ ap (λ (x : List ℕ). over x 0 o) q ∙ over-again work s o (long ∙ sym (length-replicate {A = ℕ} (length response) 0))),
          )

      pub text-accepted : a ≡ true → Answer 0 e
      unfolding work_after key
      text-accepted t =
          let n : number_of l hash div len response (length work) ≡ 0 = number_is ∙ ap (λ (b : Bool). cond b 0 20) t in
          (sym n, simp n q)
