-- T-07's claim holds. Assumes nothing.
use Rattle.std.specs.Prelude.{◌≡◌, refl, Bool, cond, length}
use Rattle.std.proofs.Common.{sym, ◌∙◌}
use Rattle.std.proofs.Math.Path.{ap, ap₂}
use Rattle.std.proofs.Math.Bool.{true, false}
use mathlib.Core.List.{List, [], ◌∷◌, ◌++◌, map}
use Prim.Native.Nat.{ℕ}
use borrow.Author.Tests.{eq-eqb, ne_eqb}
use Rattle.key_expansion.specs.KeyLength.{is_key_length}
use Rattle.plaid_types.specs.Keys.{key_length_of}
use Rattle.plaid_types.specs.Cards.{with_sets}
use Rattle.plaid_types.specs.declared.KeySet.{KeySet}
use Rattle.plaid_types.specs.declared.Card.{Card}
use Rattle.plaid_types.specs.declared.Outcome.{Outcome}
use Rattle.load.specs.Load.{sets_refusal, refusal, table_of}
use Rattle.load.proofs.Laws.{load-number, right-none}
use Rattle.key_change.specs.KeyChange.{change_refusal, sets_loaded, takes_sets}
use Rattle.key_change.proofs.Laws.{sets-number, card-after, only-table, sets-refused}
use Rattle.card.specs.Lists.{Call, outcome_of, bytes_of, Place, command, key_sets, card_after, is_initial}
use Rattle.card.specs.KeyChange.{loads-table, final-outcome, final-bytes}
use Rattle.plaid.specs.Interface.{load_of}
use Rattle.plaid.specs.declared.Given.{Given}
use Rattle.claims.specs.Load.{Load, card_of, sets_after, sets_at}
use Rattle.claims.specs.Loaded.{table-given, sets-shown, length-is, handle-given, length_three}
use Rattle.claims.specs.Kept.{left, kept}
use Rattle.claims.specs.KeyChange.{EndsAs, KeyChangeClaim}

-- the key sets behind one list and then another; commands change none
sets-append : (c : Card) (sets : List KeySet) (ps qs : List Place) → sets_after c sets (ps ++ qs) ≡ sets_after c (sets_after c sets ps) qs
unfolding sets_after
sets-append c sets [] qs = refl
sets-append c sets (command x ∷ ps) qs = sets-append c sets ps qs
sets-append c sets (key_sets s ∷ ps) qs = sets-append c (cond (takes_sets c s) s sets) ps qs

sets-commands : (c : Card) (sets : List KeySet) (xs : List Call) → sets_after c sets (map command xs) ≡ sets
unfolding sets_after
sets-commands c sets [] = refl
sets-commands c sets (x ∷ xs) = sets-commands c sets xs

-- a final command on a card with another table
ends_by : (c k : Card) (x : Call) → is_initial x ≡ false → k ≡ with_sets c k.sets → EndsAs c k x
ends_by c k x f q =
    let e = ap (λ (m : Card). outcome_of m x) q ∙ final-outcome c k.sets x f in
    record {
      answer = ap (λ (o : Outcome). o.answer) e;
      bytes = ap (λ (m : Card). bytes_of m x) q ∙ final-bytes c k.sets x f;
      sum = ap (λ (o : Outcome). o.sum) e;
      card = ap (λ (o : Outcome). o.card) e;
    }

module _ (l : Load) (ps : List Place) where
  -- L and shill handle are the load's
  length-so : key_length_of (left l ps) ≡ l.given.key_length
  length-so = ap key_length_of (kept l ps).same ∙ length-is l

  handle-so : (left l ps).shill_handle ≡ l.given.shill_handle
  handle-so = ap (λ (c : Card). c.shill_handle) (kept l ps).same ∙ handle-given l

  number-so : (sets : List KeySet) → (sets_loaded (left l ps) sets).number ≡ sets_refusal l.given.key_length sets (length sets) false l.given.shill_handle
  number-so sets = sets-number (left l ps) sets ∙ ap₂ (λ (n h : ℕ). sets_refusal n sets (length sets) false h) length-so handle-so

  checks-so : (sets : List KeySet) (g : Given) (area : List ℕ) → g.key_length ≡ l.given.key_length → g.shill_handle ≡ l.given.shill_handle →
      g.shill_key.length ≡ g.key_length → ((sets_loaded (left l ps) sets).number ≡ 0 → ⊥) → (load_of sets g area).number ≡ (sets_loaded (left l ps) sets).number
  unfolding load_of refusal
  checks-so sets g area el eh ek n =
      let three : is_key_length g.key_length ≡ true = ap is_key_length el ∙ length_three l in
      let r : ℕ = sets_refusal g.key_length sets (length sets) false g.shill_handle in
      let q : (sets_loaded (left l ps) sets).number ≡ r = number-so sets ∙ ap₂ (λ (m h : ℕ). sets_refusal m sets (length sets) false h) (sym el) (sym eh) in
      load-number g.key_length sets (length sets) g.modes g.mode_count area g.div_data g.shill_key g.shill_handle
      ∙ rw (three, eq-eqb g.shill_key.length g.key_length ek, ne_eqb r 0 (λ z. n (q ∙ z))) (sym q)

  taken : (sets : List KeySet) → (sets_loaded (left l ps) sets).number ≡ 0 → (c : Card) → key_length_of c ≡ l.given.key_length → c.shill_handle ≡ l.given.shill_handle → takes_sets c sets ≡ true
  taken sets z c el eh =
      eq-eqb (change_refusal c sets (length sets)) 0 (ap₂ (λ (n h : ℕ). sets_refusal n sets (length sets) false h) el eh ∙ sym (number-so sets) ∙ z)

  table-so : (m : Load) → m.given.key_length ≡ l.given.key_length → m.given.shill_handle ≡ l.given.shill_handle →
      ((sets_loaded (left l ps) m.sets).number ≡ 0) × ((sets_loaded (left l ps) m.sets).card.sets ≡ (card_of m).sets)
  table-so m el eh =
      let z : (sets_loaded (left l ps) m.sets).number ≡ 0 =
      number-so m.sets ∙ ap₂ (λ (n h : ℕ). sets_refusal n m.sets (length m.sets) false h) (sym el) (sym eh) ∙ right-none (sets-shown m) in (
        z,
        ap (λ (c : Card). c.sets) (card-after (left l ps) m.sets)
            ∙ ap (λ (b : Bool). (cond b (with_sets (left l ps) (table_of m.sets)) (left l ps)).sets) (taken m.sets z (left l ps) length-so handle-so)
            ∙ sym (table-given m),
      )

  next-so : (sets : List KeySet) (xs : List Call) → (sets_loaded (left l ps) sets).number ≡ 0 → sets_at l (ps ++ (key_sets sets ∷ map command xs)) ≡ sets
  unfolding sets_after
  next-so sets xs z =
      sets-append (card_of l) l.sets ps (key_sets sets ∷ map command xs)
      ∙ ap (λ (b : Bool). sets_after (card_of l) (cond b sets (sets_at l ps)) (map command xs)) (taken sets z (card_of l) (length-is l) (handle-given l))
      ∙ sets-commands (card_of l) sets xs

-- T-07
pub key-change : KeyChangeClaim
key-change l ps =
    record {
      only-table = only-table (left l ps);
      checks = checks-so l ps;
      table = table-so l ps;
      refused = sets-refused (left l ps);
      ends = λ ss x f. ends_by (left l ps) (card_after (left l ps) (map key_sets ss)) x f (loads-table (left l ps) ss);
      next = next-so l ps;
    }
