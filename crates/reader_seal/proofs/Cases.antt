-- The ways out of `fault` and of `seal`: the number, what is handed back and what the output is, in each case of the definitions. Assumes nothing.
use mathlib.Core.Path.{◌≡◌, sym, ap, ap₂, ◌∙◌}
use mathlib.Core.Bool.{true, false}
use mathlib.Core.List.{List, ◌++◌}
use Prim.Native.Nat.{ℕ, ◌+◌, ◌<◌, ◌≤◌}
use native.Mathlib.Omega.{arith}
use borrow.Author.Tests.{eq-eqb, ne_eqb, lt-ltb, le-ltb}
use lib.ListN.{length, take, length-take}
use Rattle.octets.specs.Lists.{part, over}
use Rattle.key_expansion.specs.KeyLength.{is_key_length, length_most}
use Rattle.sha_block.specs.Hash.{sha256}
use Rattle.plaid_types.specs.Keys.{wide, held, bytes_of, value_of, no_value}
use Rattle.plaid_types.specs.KeyLaws.{held-wide, value-bytes, length-bytes}
use Rattle.plaid_types.specs.declared.Value.{Value}
use Rattle.plaid_types.specs.declared.OpModeId.{OpModeId}
use Rattle.refusals.specs.declared.Refusal.{Refusal}
use Rattle.refusals.specs.Numbers.{number_of}
use Rattle.refusals.specs.Laws.{number-some}
use Rattle.diversification.specs.Diversification.{diversified_by}
use Rattle.diversification.specs.Laws.{length-diversified}
use Rattle.reader_seal.specs.Seal.{keys_hash_of, lc_of, payload_most, sealed_data, final_command, seal_command, seal_number, sealed_of, seal_output}
use Rattle.reader_seal.specs.Laws.{length-seal_command, Sealable, sealable, seal-done, seal-written}
use Rattle.reader_seal.specs.declared.Sealed.{Sealed}

module _ (l : ℕ) (fa rnd1 rnd2 : Value) (p room : ℕ) where
  abbrev Number : ℕ
  Number = seal_number l fa rnd1 rnd2 p room

  pub length-other : is_key_length l ≡ false → 21 ≡ Number
  unfolding seal_number
  length-other e = simp e

  module _ (one : is_key_length l ≡ true) where
    pub key-other : (fa.length ≡ l → ⊥) → 22 ≡ Number
    unfolding seal_number
    key-other h = simp (one, ne_eqb fa.length l h)

    module _ (f : fa.length ≡ l) where
      pub rnd1-other : (rnd1.length ≡ l → ⊥) → 22 ≡ Number
      unfolding seal_number
      rnd1-other h = simp (one, eq-eqb fa.length l f, ne_eqb rnd1.length l h)

      module _ (a : rnd1.length ≡ l) where
        pub rnd2-other : (rnd2.length ≡ l → ⊥) → 22 ≡ Number
        unfolding seal_number
        rnd2-other h = simp (one, eq-eqb fa.length l f, eq-eqb rnd1.length l a, ne_eqb rnd2.length l h)

        module _ (b : rnd2.length ≡ l) where
          pub payload-long : payload_most l < p → 16 ≡ Number
          unfolding seal_number
          payload-long h = simp (one, eq-eqb fa.length l f, eq-eqb rnd1.length l a, eq-eqb rnd2.length l b, lt-ltb (payload_most l) p h)

          module _ (m : p ≤ payload_most l) where
            pub output-short : room < lc_of l p + 6 → 17 ≡ Number
            unfolding seal_number
            output-short h =
                simp (one, eq-eqb fa.length l f, eq-eqb rnd1.length l a, eq-eqb rnd2.length l b, le-ltb (payload_most l) p m, lt-ltb room (lc_of l p + 6) h)

            pub no-fault : lc_of l p + 6 ≤ room → 0 ≡ Number
            unfolding seal_number
            no-fault h =
                simp (one, eq-eqb fa.length l f, eq-eqb rnd1.length l a, eq-eqb rnd2.length l b, le-ltb (payload_most l) p m, le-ltb room (lc_of l p + 6) h)

-- what is known after `fault` if it finds none
pub seen : {l : ℕ} {fa rnd1 rnd2 : Value} {p room : ℕ} → 0 ≡ seal_number l fa rnd1 rnd2 p room → Sealable l fa rnd1 rnd2 p room
seen {l} {fa} {rnd1} {rnd2} {p} {room} e = sealable l fa rnd1 rnd2 p room (sym e)

pub taken-most : (l : ℕ) (s : List ℕ) → l ≤ 32 → length (take l s) ≤ 32
taken-most l s h = omega (arith, length-take l s)

-- the bytes of a key that is held in 32
held_of : (l : ℕ) (k : List ℕ) {w : List ℕ} → length k ≡ l → w ≡ wide k → take l w ≡ k
unfolding held part
held_of l k e q = ap (take l) q ∙ held-wide l k e

made : {n n' : ℕ} {h h' : Value} → n ≡ n' → h ≡ h' → ◌≡◌ {A = Sealed} (record { number = 0; length = n; keys_hash = h }) (record { number = 0; length = n'; keys_hash = h' })
made p q = cc

module _ (l : ℕ) (fa : Value) (div : List ℕ) (rnd1 rnd2 : Value) (mode : OpModeId) (payload out : List ℕ) where
  -- what is returned, and the output
  abbrev Answer : Sealed → List ℕ → Type 0
  Answer r e = (r ≡ sealed_of l fa div rnd1 rnd2 mode payload (length out)) × (e ≡ seal_output l fa div rnd1 rnd2 mode payload out)

  pub not-sealed : (r : Refusal) {k : ℕ} {v : Value} → number_of r ≡ seal_number l fa rnd1 rnd2 (length payload) (length out) →
      k ≡ number_of r → v ≡ no_value → Answer (record { number = k; length = 0; keys_hash = v }) out
  unfolding sealed_of seal_output
  not-sealed r e ek ev =
      let f = ne_eqb (seal_number l fa rnd1 rnd2 (length payload) (length out)) 0 (λ y. omega (arith, number-some r)) in
      (ap₂ (λ (x : ℕ) (y : Value). record { number = x; length = 0; keys_hash = y }) (ek ∙ e) ev ∙ sym (simp f), simp f)

  pub command-made :
      {digest key e : List ℕ} {h : Value} {lc : ℕ}
      → 0 ≡ seal_number l fa rnd1 rnd2 (length payload) (length out)
      → length fa.bytes ≡ 32
      → digest ≡ sha256 (take l rnd1.bytes ++ take l rnd2.bytes)
      → key ≡ wide (diversified_by (take l fa.bytes) div)
      → lc ≡ lc_of l (length payload)
      → e ≡ over out 0 (final_command lc (sealed_data l (take l key) mode (take l rnd2.bytes) payload (take l digest)))
      → h ≡ value_of (take l digest)
      → Answer (record { number = 0; length = lc + 6; keys_hash = h }) e
  unfolding seal_command keys_hash_of part
  command-made {digest} {key} {e} {h} {lc} z long qd qk ql w qh =
      let s = seen z in
      let one = s.length-one in
      let f : List ℕ = bytes_of fa in
      let a : List ℕ = bytes_of rnd1 in
      let b : List ℕ = bytes_of rnd2 in
      let lf : length f ≡ l = length-bytes l fa (length_most l one) long s.key_right in
      let db : take l rnd2.bytes ≡ b = value-bytes l rnd2 s.rnd2-right in
      let dh : take l digest ≡ keys_hash_of l a b = ap (take l) (qd ∙ ap₂ (λ (x y : List ℕ). sha256 (x ++ y)) (value-bytes l rnd1 s.rnd1-right) db) in
      let dk : take l key ≡ diversified_by f div =
      held_of l (diversified_by f div) (length-diversified f div (ap is_key_length lf ∙ one) ∙ lf) (qk ∙ ap (λ (x : List ℕ). wide (diversified_by x div)) (value-bytes l fa s.key_right)) in (
        made (ap (λ (x : ℕ). x + 6) ql ∙ sym (length-seal_command l f div a b mode payload)) (qh ∙ ap value_of dh) ∙ sym (seal-done l fa div rnd1 rnd2 mode payload out (sym z)),
        w
            ∙ ap (over out 0) (ap₂ final_command ql (ap₂ (λ (x y : List ℕ). sealed_data l x mode y payload (take l digest)) dk db ∙ ap (sealed_data l (diversified_by f div) mode b payload) dh))
            ∙ sym (seal-written l fa div rnd1 rnd2 mode payload out (sym z)),
      )
