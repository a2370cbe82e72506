-- T-07: the table behind a list, in terms of what was given. It is that of the last key sets that were not refused. Assumes nothing.
use Rattle.std.specs.Prelude.{◌≡◌, refl, Bool, true, false, cond, List, [], ◌∷◌, ◌++◌, ℕ, ◌<◌, ◌≤◌, length, get_or}
use Rattle.std.proofs.Common.{sym, ap, ap₂, ◌∙◌, subst, le_refl}
use Rattle.std.proofs.Math.Seq.{take-length}
use Rattle.plaid_types.specs.Keys.{key_length_of, held, bytes_of}
use Rattle.plaid_types.specs.KeyLaws.{lawful-one}
use Rattle.plaid_types.specs.Cards.{with_sets}
use Rattle.plaid_types.specs.declared.KeySet.{KeySet}
use Rattle.plaid_types.specs.declared.Card.{Card}
use Rattle.load.specs.Load.{past_set, table_of}
use Rattle.load.proofs.Laws.{slot_at, SetsRight, set-right, set-kept}
use Rattle.key_change.specs.KeyChange.{sets_loaded, takes_sets}
use Rattle.key_change.proofs.Laws.{card-after, change-right}
use Rattle.card.specs.Lists.{Place, command, key_sets, load_after}
use Rattle.claims.specs.Load.{Load, TypedSets, TypedPlaces, card_of, sets_after, sets_at}
use Rattle.claims.specs.Loaded.{table-given, sets-shown, length-is, handle-given}

cases : (c : Card) (s t : List KeySet) (b : Bool) → cond b (with_sets (with_sets c (table_of t)) (table_of s)) (with_sets c (table_of t)) ≡ with_sets c (table_of (cond b s t))
cases c s t true = refl
cases c s t false = refl

table-after : (c k : Card) (sets : List KeySet) → k ≡ with_sets c (table_of sets) → (ps : List Place) → load_after k ps ≡ with_sets c (table_of (sets_after c sets ps))
unfolding load_after sets_after
table-after c k sets q [] = q
table-after c k sets q (command x ∷ ps) = table-after c k sets q ps
table-after c k sets q (key_sets s ∷ ps) =
    table-after c (sets_loaded k s).card (cond (takes_sets c s) s sets)
    (card-after k s ∙ ap (λ (e : Card). cond (takes_sets e s) (with_sets e (table_of s)) e) q ∙ cases c s sets (takes_sets c s)) ps

right-after : (c : Card) (sets : List KeySet) → SetsRight (key_length_of c) sets (length sets) false c.shill_handle → (ps : List Place) →
    SetsRight (key_length_of c) (sets_after c sets ps) (length (sets_after c sets ps)) false c.shill_handle
unfolding sets_after
right-after c sets r [] = r
right-after c sets r (command x ∷ ps) = right-after c sets r ps
right-after c sets r (key_sets s ∷ ps) = right-after c (cond (takes_sets c s) s sets) (by (takes_sets c s) refl) ps
  where
    by : (t : Bool) → takes_sets c s ≡ t → SetsRight (key_length_of c) (cond t s sets) (length (cond t s sets)) false c.shill_handle
    by true e = change-right c s e
    by false e = r

typed-after : (c : Card) (sets : List KeySet) → TypedSets sets → (ps : List Place) → TypedPlaces ps → TypedSets (sets_after c sets ps)
unfolding sets_after TypedPlaces
typed-after c sets t [] u = t
typed-after c sets t (command x ∷ ps) u = typed-after c sets t ps u
typed-after c sets t (key_sets s ∷ ps) u = typed-after c (cond (takes_sets c s) s sets) (by (takes_sets c s)) ps u.1
  where
    by : (b : Bool) → TypedSets (cond b s sets)
    by true = u.0
    by false = t

-- the beginning of a list
pub typed-front : (ps qs : List Place) → TypedPlaces (ps ++ qs) → TypedPlaces ps
unfolding TypedPlaces
typed-front [] qs u = tt
typed-front (command x ∷ ps) qs u = typed-front ps qs u
typed-front (key_sets s ∷ ps) qs u = (u.0, typed-front ps qs u.1)

module _ (l : Load) (ps : List Place) where
  pub table_at : load_after (card_of l) ps ≡ with_sets (card_of l) (table_of (sets_at l ps))
  table_at = table-after (card_of l) (card_of l) l.sets (ap (with_sets (card_of l)) (table-given l)) ps

  right-at : SetsRight (key_length_of (card_of l)) (sets_at l ps) (length (sets_at l ps)) false (card_of l).shill_handle
  right-at =
      right-after (card_of l) l.sets
      (subst (λ (n : ℕ). SetsRight n l.sets (length l.sets) false (card_of l).shill_handle) (sym (length-is l))
      (subst (λ (h : ℕ). SetsRight l.given.key_length l.sets (length l.sets) false h) (sym (handle-given l)) (sets-shown l))) ps

  pub sets-most : length (sets_at l ps) ≤ 8
  sets-most = right-at.sets-most

  -- each FAKey has L bytes, which its slot holds
  module _ (i : ℕ) (h : i < length (sets_at l ps)) where
    pub set-length : (get_or (sets_at l ps) i past_set).fa_key.length ≡ l.given.key_length
    set-length = set-right right-at i h (le_refl (length (sets_at l ps))) ∙ length-is l

    pub fa-key-held : TypedPlaces ps → held l.given.key_length (slot_at (table_of (sets_at l ps)) i).fa_key ≡ bytes_of (get_or (sets_at l ps) i past_set).fa_key
    fa-key-held u =
        ap₂ (λ (n : ℕ) (s : List KeySet). held n (slot_at (table_of s) i).fa_key) (sym (length-is l)) (sym (take-length (sets_at l ps)))
        ∙ set-kept right-at (lawful-one (card_of l).key_length) (le_refl (length (sets_at l ps))) i h (typed-after (card_of l) l.sets l.typed.keys ps u i h).long

  pub sets-typed : TypedPlaces ps → TypedSets (sets_at l ps)
  sets-typed u = typed-after (card_of l) l.sets l.typed.keys ps u
