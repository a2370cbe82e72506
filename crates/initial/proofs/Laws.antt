-- The counts and the length of an initial command's reply. Assumes nothing.
use Rattle.std.specs.Prelude.{◌≡◌, refl, Bool, true, false, cond, ◌&&◌, is_some, List, [], ◌∷◌, ◌++◌, ℕ, zero, suc, ◌+◌, ◌*◌, ◌≤◌, eqb, length, get_or}
use Rattle.std.proofs.Common.{ap, ◌∙◌, arith, length-append}
use Rattle.octets.specs.Lists.{part, length_part}
use Rattle.work.specs.Steps.{comparison, counted}
use Rattle.work.specs.Laws.{counted-append, times_none, times_more}
use Rattle.frame.specs.Declines.{pad_bytes}
use Rattle.frame.specs.Laws.{length-pads}
use Rattle.list.specs.Ber.{entry_at, entry_id, next_place, place_count, is_formed, first_entry}
use Rattle.plaid_types.specs.Keys.{key_length_of, str1_length}
use Rattle.plaid_types.specs.KeyLaws.{lawful-most, length-wide, str1-most}
use Rattle.plaid_types.specs.Cards.{no_set}
use Rattle.plaid_types.specs.declared.KeySetId.{KeySetId}
use Rattle.plaid_types.specs.declared.KeySetSlot.{KeySetSlot}
use Rattle.plaid_types.specs.declared.Card.{Card}
use Rattle.initial.specs.Initial.{slot_steps, place_steps, initial_steps, slot_of, accepts_initial, str1, block_of, accepted_initial, refused_initial, initial_reply}

-- one for a step of kind k, if it is a comparison
abbrev of-kind : ℕ → ℕ
of-kind k = cond (eqb comparison k) 1 0

pub counted-slots : (k : ℕ) (present : Bool) (v : KeySetId) (sets : List KeySetSlot) → counted k (slot_steps present v sets) ≡ length sets * of-kind k
counted-slots k present v [] = times_none (eqb comparison k)
counted-slots k present v (x ∷ xs) = ap (λ (n : ℕ). of-kind k + n) (counted-slots k present v xs) ∙ times_more (eqb comparison k) (length xs)

counted-places : (k : ℕ) (sets : List KeySetSlot) (formed : Bool) (d : List ℕ) (p n : ℕ) → length sets ≡ 8 → counted k (place_steps sets formed d p n) ≡ 8 * n * of-kind k
unfolding place_steps
counted-places k sets formed d p zero l = none (eqb comparison k)
  where
    none : (t : Bool) → 0 ≡ 8 * 0 * cond t 1 0
    none true = refl
    none false = refl
counted-places k sets formed d p (suc n) l =
    counted-append k (slot_steps (formed && is_some (entry_at d p)) (entry_id (entry_at d p)) sets) (place_steps sets formed d (next_place p (entry_at d p)) n)
    ∙ rw (counted-slots k (formed && is_some (entry_at d p)) (entry_id (entry_at d p)) sets, l, counted-places k sets formed d (next_place p (entry_at d p)) n l) (more (eqb comparison k) n)
  where
    more : (t : Bool) (n : ℕ) → 8 * cond t 1 0 + 8 * n * cond t 1 0 ≡ 8 * suc n * cond t 1 0
    more true n = omega arith
    more false n = omega arith

reply-steps : (c : Card) (d fresh : List ℕ) (t : Bool) → (cond t (accepted_initial c d fresh (get_or c.sets (slot_of c d) no_set)) (refused_initial c d fresh)).steps ≡ initial_steps c d
reply-steps c d fresh true = refl
reply-steps c d fresh false = refl

pub initial-steps : (c : Card) (d fresh : List ℕ) → (initial_reply c d fresh).steps ≡ initial_steps c d
unfolding initial_reply
initial-steps c d fresh = reply-steps c d fresh (accepts_initial c d)

-- "Initial: 8 times floor(Lc/4) comparisons, the rest 0."
pub initial-counted : (k : ℕ) (c : Card) (d fresh : List ℕ) → length c.sets ≡ 8 → counted k (initial_reply c d fresh).steps ≡ 8 * place_count d * of-kind k
unfolding initial_steps
initial-counted k c d fresh l = ap (counted k) (initial-steps c d fresh) ∙ counted-places k c.sets (is_formed d) d (first_entry d) (place_count d) l

pub length-str1 : (l : ℕ) (id : KeySetId) (div rnd1 : List ℕ) → length div ≡ 16 → length rnd1 ≡ l → length (str1 id div rnd1) ≡ str1_length l
unfolding str1 str1_length
length-str1 l id div rnd1 ld lr = omega (arith, length-append div (rnd1 ++ rnd1), length-append rnd1 rnd1)

pub length-block : (l : ℕ) (fresh text : List ℕ) → l ≤ 32 → length fresh ≡ 253 → length text ≡ str1_length l → length (block_of l fresh text) ≡ 256
unfolding block_of
length-block l fresh text h lf lt =
    length-append (0 ∷ 2 ∷ (pad_bytes l fresh ++ (0 ∷ []))) text ∙ omega (arith, length-append (pad_bytes l fresh) (0 ∷ []), length-pads l fresh lf, str1-most l h)

-- RND1 has L bytes, and F as many as STR1
pub rnd1-long : (c : Card) (fresh : List ℕ) → length fresh ≡ 253 → length (part fresh 0 (key_length_of c)) ≡ key_length_of c
rnd1-long c fresh lf = length_part fresh 0 (key_length_of c) (omega (arith, lawful-most c.key_length))

f-long : (c : Card) (fresh : List ℕ) → length fresh ≡ 253 → length (part fresh 0 (str1_length (key_length_of c))) ≡ str1_length (key_length_of c)
f-long c fresh lf = length_part fresh 0 (str1_length (key_length_of c)) (omega (arith, str1-most (key_length_of c) (lawful-most c.key_length)))

length-cases : (c : Card) (d fresh : List ℕ) (t : Bool) → length c.div_data ≡ 16 → length fresh ≡ 253 →
    length (cond t (accepted_initial c d fresh (get_or c.sets (slot_of c d) no_set)) (refused_initial c d fresh)).bytes ≡ 256
length-cases c d fresh true ld lf =
    length-block (key_length_of c) fresh _ (lawful-most c.key_length) lf
    (length-str1 (key_length_of c) (get_or c.sets (slot_of c d) no_set).id c.div_data (part fresh 0 (key_length_of c)) ld (rnd1-long c fresh lf))
length-cases c d fresh false ld lf =
    length-block (key_length_of c) fresh (part fresh 0 (str1_length (key_length_of c))) (lawful-most c.key_length) lf (f-long c fresh lf)

-- "Answer length: 256"
pub initial-length : (c : Card) (d fresh : List ℕ) → length c.div_data ≡ 16 → length fresh ≡ 253 → length (initial_reply c d fresh).bytes ≡ 256
unfolding initial_reply
initial-length c d fresh ld lf = length-cases c d fresh (accepts_initial c d) ld lf

-- the session afterwards holds RND1 in 32 bytes
session-cases : (c : Card) (d fresh : List ℕ) (t : Bool) → length fresh ≡ 253 →
    length (cond t (accepted_initial c d fresh (get_or c.sets (slot_of c d) no_set)) (refused_initial c d fresh)).session.rnd1 ≡ 32
session-cases c d fresh true lf = length-wide (part fresh 0 (key_length_of c)) (omega (arith, rnd1-long c fresh lf, lawful-most c.key_length))
session-cases c d fresh false lf = refl

pub initial-rnd1 : (c : Card) (d fresh : List ℕ) → length fresh ≡ 253 → length (initial_reply c d fresh).session.rnd1 ≡ 32
unfolding initial_reply
initial-rnd1 c d fresh lf = session-cases c d fresh (accepts_initial c d) lf

-- T-07: and the FAKey, where 32 bytes hold those of the table
key-cases : (c : Card) (d fresh : List ℕ) (t : Bool) → ((i : ℕ) → length (get_or c.sets i no_set).fa_key ≡ 32) →
    length (cond t (accepted_initial c d fresh (get_or c.sets (slot_of c d) no_set)) (refused_initial c d fresh)).session.fa_key ≡ 32
key-cases c d fresh true h = h (slot_of c d)
key-cases c d fresh false h = refl

pub initial-key : (c : Card) (d fresh : List ℕ) → ((i : ℕ) → length (get_or c.sets i no_set).fa_key ≡ 32) → length (initial_reply c d fresh).session.fa_key ≡ 32
unfolding initial_reply
initial-key c d fresh h = key-cases c d fresh (accepts_initial c d) h
