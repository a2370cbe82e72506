-- What a card has seen that accepts a final command: the six conditions, and the mode slot that its text names. Assumes nothing.
use Rattle.std.specs.Prelude.{◌≡◌, refl, Bool, true, false, cond, List, [], ◌∷◌, ℕ, zero, suc, ◌+◌, ◌-◌, ◌*◌, ◌%◌, ◌<◌, ◌≤◌, length, get_or}
use Rattle.std.proofs.Common.{sym, ap, not-suc-le-zero, arith, eqb-true, ltb-true, leb-true}
use Rattle.std.proofs.Math.Bool.{and-eq-true_iff}
use Rattle.octets.specs.Lists.{part}
use Rattle.octets.specs.Same.{split-and, same_true}
use Rattle.padding.specs.Method2.{end, rightly}
use Rattle.steps.specs.Made.{mode_matched}
use Rattle.plaid_types.specs.Keys.{key_length_of}
use Rattle.plaid_types.specs.Cards.{no_mode}
use Rattle.plaid_types.specs.declared.OpModeId.{OpModeId}
use Rattle.plaid_types.specs.declared.ModeSlot.{ModeSlot}
use Rattle.plaid_types.specs.declared.Card.{Card}
use Rattle.load.proofs.Laws.{mode_at, Stocked}
use Rattle.final_command.specs.Final.{text_of, card_keys_hash, op_mode, first_mode, mode_of, deciphered_text, accepting, accepts_final}

-- "Accepted exactly when a session is open, Lc is a multiple of 16, the first 16n bytes are rightly padded, the unpadded text has at least 34
-- bytes, its last 16 equal KeysHash, and the mode is held" (its slot is below sixteen): of a text s. T-04: "the shortest text has 2 + 2L bytes", and
-- KeysHash has L
pub record SixConditions (l : ℕ) (opened : Bool) (lc : ℕ) (s hash : List ℕ) (mode : ℕ) : Type 0 where
  pub in-session : opened ≡ true
  pub whole : lc % 16 ≡ 0
  pub right : rightly s ≡ true
  pub long : 2 + 2 * l ≤ end s - 1
  pub last : part s (end s - 1 - l) l ≡ hash
  pub below : mode < 16

six-by : (l : ℕ) (opened : Bool) (lc : ℕ) (s hash : List ℕ) (mode : ℕ) → accepting l opened lc s hash mode ≡ true → SixConditions l opened lc s hash mode
unfolding accepting
six-by l opened lc s hash mode e =
    let a = split-and _ _ e in
    let b = split-and _ _ a.1 in
    let k = split-and _ _ b.1 in
    let m = split-and _ _ k.1 in
    let n = split-and _ _ m.1 in
    record {
      in-session = a.0;
      whole = eqb-true (lc % 16) 0 b.0;
      right = k.0;
      long = leb-true (2 + 2 * l) (end s - 1) m.0;
      last = same_true (part s (end s - 1 - l) l) hash n.0;
      below = ltb-true mode 16 n.1;
    }

pub six-conditions : (c : Card) (d : List ℕ) → accepts_final c d ≡ true → SixConditions (key_length_of c) c.session.opened (length d) (deciphered_text c d) (card_keys_hash c d) (mode_of c d)
unfolding accepts_final
six-conditions c d e = six-by (key_length_of c) c.session.opened (length d) (deciphered_text c d) (card_keys_hash c d) (mode_of c d) e

-- a slot that was found matches: it is held, and its number is the one looked for
pub record Found (m : ModeSlot) (v : OpModeId) : Type 0 where
  pub is_held : m.held ≡ true
  pub is-mode : m.id ≡ v

found-by : (m : ModeSlot) (v : OpModeId) → mode_matched v m.held m.id ≡ true → Found m v
found-by m v e =
    let a = (and-eq-true_iff _ _).0 e in
    record { is_held = a.0; is-mode = ap (λ (n : ℕ). record { 0 = n }) (sym (eqb-true v.0 m.id.0 a.1)) }

-- the slots are counted from i: place n of the list is number i + n
first_step : (i f : ℕ) (t : Bool) → suc i ≤ f → i ≤ cond t i f
first_step i f true h = omega arith
first_step i f false h = omega arith

first-least : (v : OpModeId) (ms : List ModeSlot) (i : ℕ) → i ≤ first_mode i v ms
first-least v [] i = omega arith
first-least v (m ∷ ms) i = first_step i (first_mode (suc i) v ms) (mode_matched v m.held m.id) (first-least v ms (suc i))

found-step : (v : OpModeId) (m : ModeSlot) (ms : List ModeSlot) (i f n : ℕ) (t : Bool) → mode_matched v m.held m.id ≡ t → suc i ≤ f →
    ((n : ℕ) → f ≡ suc i + n → n < length ms → Found (get_or ms n no_mode) v) →
    cond t i f ≡ i + n → n < suc (length ms) → Found (get_or (m ∷ ms) n no_mode) v
found-step v m ms i f zero true q l r e h = found-by m v q
found-step v m ms i f (suc n) true q l r e h = absurd (omega arith)
found-step v m ms i f zero false q l r e h = absurd (omega arith)
found-step v m ms i f (suc n) false q l r e h = r n (omega arith) (omega arith)

found_from : (v : OpModeId) (ms : List ModeSlot) (i n : ℕ) → first_mode i v ms ≡ i + n → n < length ms → Found (get_or ms n no_mode) v
found_from v [] i n e h = absurd (not-suc-le-zero h)
found_from v (m ∷ ms) i n e h =
    found-step v m ms i (first_mode (suc i) v ms) n (mode_matched v m.held m.id) refl (first-least v ms (suc i)) (λ j p q. found_from v ms (suc i) j p q) e h

pub first_found : (v : OpModeId) (ms : List ModeSlot) → first_mode 0 v ms < length ms → Found (get_or ms (first_mode 0 v ms) no_mode) v
first_found v ms h = found_from v ms 0 (first_mode 0 v ms) (omega arith) h

-- so the slot of the mode that an accepted text names is held, and is that mode's
pub named-found : (c : Card) (d : List ℕ) → Stocked c → accepts_final c d ≡ true → Found (mode_at c (mode_of c d)) (op_mode (text_of c d))
unfolding mode_of
named-found c d g e = first_found (op_mode (text_of c d)) c.modes (omega (arith, (six-conditions c d e).below, g.modes-long))
