-- Document 02, T-05: records of UUIDs to texts and back, texts to records and back. Assumes nothing.
use Rattle.std.specs.Prelude.{◌≡◌, Bool, true, cond, ◌&&◌, not, List, ◌∷◌, ◌++◌, map, ℕ, suc, ◌+◌, ◌*◌, ◌<◌, ◌≤◌, eqb, length, get_or}
use Rattle.std.proofs.Common.{sym, ap, ap₂, ◌∙◌, arith, eq-eqb}
use Rattle.std.proofs.lemmas.List.{length-map}
use Rattle.std.proofs.Math.ListN.{get_or-map}
use Rattle.octets.specs.Bytes.{Bytes}
use Rattle.octets.specs.Lists.{part, length_part, cons}
use Rattle.octets.specs.ByteLists.{part_bytes}
use Rattle.conversion.specs.Conversion.{misfit, each}
use Rattle.conversion.specs.Answers.{no-misfit}
use Rattle.hexadecimal.specs.Hexadecimal.{is_digit, octets_of, digits_of}
use Rattle.uuids.specs.Uuid.{hyphen, behind_hyphen, text_of, record_of, group_at, formed, small, small_text, text_number, record_number}
use Rattle.door_claims.specs.Characters.{small-hyphen}
use Rattle.uuids.specs.Groups.{octets-long, digits_long, length-record, length-text, Group, formed-true}
use Rattle.uuids.specs.Numbers.{text-taken, text-shown, record-fits, record-shown}
use Rattle.door_claims.specs.Parts.{part-cons, map-part, joined, joined-map, Apart, apart}
use Rattle.door_claims.specs.Digits.{digits_are, octets-back, digits-back, each-small, octets-small}

-- the groups of a text that a record gave, and of a record that a text gave
written : (r : List ℕ) → length r ≡ 16 →
    Apart (text_of r) (digits_of (part r 0 4)) (behind_hyphen (part r 4 2)) (behind_hyphen (part r 6 2)) (behind_hyphen (part r 8 2)) (behind_hyphen (part r 10 6)) 8 5 5 5 13
unfolding text_of
written r l =
    let n : (at n : ℕ) → at + n ≤ 16 → length (digits_of (part r at n)) ≡ 2 * n = λ at n h. digits_long r at n (omega arith) in
    apart (digits_of (part r 0 4)) (behind_hyphen (part r 4 2)) (behind_hyphen (part r 6 2)) (behind_hyphen (part r 8 2)) (behind_hyphen (part r 10 6)) 8 5 5 5 13
    (n 0 4 (omega arith)) (ap suc (n 4 2 (omega arith))) (ap suc (n 6 2 (omega arith))) (ap suc (n 8 2 (omega arith))) (ap suc (n 10 6 (omega arith)))

taken : (t : List ℕ) → length t ≡ 36 →
    Apart (record_of t) (octets_of (part t 0 8)) (octets_of (part t 9 4)) (octets_of (part t 14 4)) (octets_of (part t 19 4)) (octets_of (part t 24 12)) 4 2 2 2 6
unfolding record_of
taken t l =
    apart (octets_of (part t 0 8)) (octets_of (part t 9 4)) (octets_of (part t 14 4)) (octets_of (part t 19 4)) (octets_of (part t 24 12)) 4 2 2 2 6
    (octets-long t 0 8 (omega arith)) (octets-long t 9 4 (omega arith)) (octets-long t 14 4 (omega arith)) (octets-long t 19 4 (omega arith)) (octets-long t 24 12 (omega arith))

-- a record and a text, told by their groups
record_of-parts : (t a b c d e : List ℕ) → octets_of (part t 0 8) ≡ a → octets_of (part t 9 4) ≡ b → octets_of (part t 14 4) ≡ c → octets_of (part t 19 4) ≡ d → octets_of (part t 24 12) ≡ e →
    record_of t ≡ a ++ b ++ c ++ d ++ e
unfolding record_of
record_of-parts t a b c d e p q r s u = rw (p, q, r, s, u)

text-of : (r a b c d e : List ℕ) → digits_of (part r 0 4) ≡ a → behind_hyphen (part r 4 2) ≡ b → behind_hyphen (part r 6 2) ≡ c → behind_hyphen (part r 8 2) ≡ d → behind_hyphen (part r 10 6) ≡ e →
    text_of r ≡ a ++ b ++ c ++ d ++ e
unfolding text_of
text-of x a b c d e p q r s u = ap₂ ◌++◌ (ap₂ ◌++◌ (ap₂ ◌++◌ (ap₂ ◌++◌ p q) r) s) u

-- a group that is the digits of some bytes, and one behind a hyphen
digits-read : (t r : List ℕ) (p n : ℕ) → Bytes r → part t p n ≡ digits_of r → (each is_digit (part t p n) ≡ true) × (octets_of (part t p n) ≡ r)
digits-read t r p n bytes e = (ap (each is_digit) e ∙ digits_are r bytes, ap octets_of e ∙ octets-back r bytes)

group-read : (t r : List ℕ) (p n : ℕ) → Bytes r → p < length t → part t p (n + 1) ≡ behind_hyphen r → (group_at t p n ≡ true) × (octets_of (part t (p + 1) n) ≡ r)
unfolding group_at
group-read t r p n bytes h e =
    let w : ◌≡◌ {A = List ℕ} (get_or t p 0 ∷ part t (p + 1) n) (hyphen ∷ digits_of r) = sym (part-cons t p n h) ∙ e in
    let mark : get_or t p 0 ≡ hyphen = cc in
    let rest : part t (p + 1) n ≡ digits_of r = cc in
    let q = digits-read t r (p + 1) n bytes rest in
    (simp (eq-eqb (get_or t p 0) hyphen mark, q.0), q.1)

-- "A record not refused, turned to its door form and back, is the same record"
pub record-back : (r : List ℕ) (room room' : ℕ) → Bytes r → record_number r room ≡ 0 → 16 ≤ room' → (text_number (text_of r) room' ≡ 0) × (record_of (text_of r) ≡ r)
unfolding formed
record-back r room room' bytes e h =
    let l = (record-shown r room e).0 in
    let t : List ℕ = text_of r in
    let long : length t ≡ 36 = length-text r l in
    let w = written r l in
    let part_of : (p n : ℕ) → Bytes (part r p n) = λ p n. part_bytes r p n bytes in
    let low = digits-read t (part r 0 4) 0 8 (part_of 0 4) w.first in
    let mid = group-read t (part r 4 2) 8 4 (part_of 4 2) (omega arith) w.second in
    let high = group-read t (part r 6 2) 13 4 (part_of 6 2) (omega arith) w.third in
    let clock = group-read t (part r 8 2) 18 4 (part_of 8 2) (omega arith) w.fourth in
    let node = group-read t (part r 10 6) 23 12 (part_of 10 6) (omega arith) w.fifth in (
      text-taken t room' (no-misfit (length t) 36 room' 16 long h) (simp (low.0, mid.0, high.0, clock.0, node.0)),
      record_of-parts t (part r 0 4) (part r 4 2) (part r 6 2) (part r 8 2) (part r 10 6) low.1 mid.1 high.1 clock.1 node.1 ∙ joined r 4 2 2 2 6 l,
    )

-- octets of a group of digits, and of one behind a hyphen, written again
digits-again : (t r : List ℕ) (p n : ℕ) → p + 2 * n ≤ length t → r ≡ octets_of (part t p (2 * n)) → each is_digit (part t p (2 * n)) ≡ true → digits_of r ≡ map small (part t p (2 * n))
digits-again t r p n h q e = ap digits_of q ∙ digits-back (part t p (2 * n)) n (length_part t p (2 * n) h) e

group-again : (t r : List ℕ) (p n : ℕ) → p + 1 + 2 * n ≤ length t → r ≡ octets_of (part t (p + 1) (2 * n)) → Group t p (2 * n) → behind_hyphen r ≡ map small (part t p (2 * n + 1))
group-again t r p n h q g =
    cons (sym (ap small g.0)) (digits-again t r (p + 1) n h q g.1)
    ∙ ap (map small) (sym (part-cons t p (2 * n) (omega arith)))

-- "a text likewise, but for capitals"
pub text-back : (t : List ℕ) (room room' : ℕ) → text_number t room ≡ 0 → 36 ≤ room' → (record_number (record_of t) room' ≡ 0) × (text_of (record_of t) ≡ small_text t)
text-back t room room' e h =
    let shown = text-shown t room e in
    let l : length t ≡ 36 = shown.0 in
    let f = formed-true t shown.2 in
    let r : List ℕ = record_of t in
    let w = taken t l in (
      record-fits r room' (no-misfit (length r) 16 room' 36 (length-record t l) h),
      text-of r (map small (part t 0 8)) (map small (part t 8 5)) (map small (part t 13 5)) (map small (part t 18 5)) (map small (part t 23 13))
          (digits-again t (part r 0 4) 0 4 (omega arith) w.first f.low)
          (group-again t (part r 4 2) 8 2 (omega arith) w.second f.mid)
          (group-again t (part r 6 2) 13 2 (omega arith) w.third f.high)
          (group-again t (part r 8 2) 18 2 (omega arith) w.fourth f.clock)
          (group-again t (part r 10 6) 23 6 (omega arith) w.fifth f.node)
          ∙ joined-map small t 8 5 5 5 13 l,
    )

-- a text and its small form have the same characters that are digits and hyphens
digits-small : (t : List ℕ) (p n : ℕ) → each is_digit (part (small_text t) p n) ≡ each is_digit (part t p n)
digits-small t p n = ap (each is_digit) (map-part small t p n) ∙ each-small (part t p n)

group-small : (t : List ℕ) (p n : ℕ) → group_at (small_text t) p n ≡ group_at t p n
unfolding group_at
group-small t p n = ap₂ ◌&&◌ (ap (λ (c : ℕ). eqb c hyphen) (get_or-map small t p 0) ∙ small-hyphen (get_or t p 0)) (digits-small t (p + 1) n)

formed-small : (t : List ℕ) → formed (small_text t) ≡ formed t
unfolding formed
formed-small t = ap₂ ◌&&◌ (digits-small t 0 8) (ap₂ ◌&&◌ (group-small t 8 4) (ap₂ ◌&&◌ (group-small t 13 4) (ap₂ ◌&&◌ (group-small t 18 4) (group-small t 23 12))))

-- "either case read": a text and its small form get the same number, and give the same record
pub small-number : (t : List ℕ) (room : ℕ) → text_number (small_text t) room ≡ text_number t room
unfolding text_number
small-number t room = ap₂ (λ (n : ℕ) (f : Bool). cond (misfit n 36 room 16) 23 (cond (not f) 25 0)) (length-map t small) (formed-small t)

pub small-record : (t : List ℕ) (room : ℕ) → text_number t room ≡ 0 → record_of (small_text t) ≡ record_of t
unfolding record_of
small-record t room e =
    let f = formed-true t (text-shown t room e).2 in
    let same : (p n : ℕ) → each is_digit (part t p n) ≡ true → octets_of (part (small_text t) p n) ≡ octets_of (part t p n) = λ p n d. ap octets_of (map-part small t p n) ∙ octets-small (part t p n) d in
    record_of-parts (small_text t) (octets_of (part t 0 8)) (octets_of (part t 9 4)) (octets_of (part t 14 4)) (octets_of (part t 19 4)) (octets_of (part t 24 12))
    (same 0 8 f.low) (same 9 4 f.mid.1) (same 14 4 f.high.1) (same 19 4 f.clock.1) (same 24 12 f.node.1)

-- every record of 16 bytes is a UUID's, with record-back
pub record-taken : (r : List ℕ) (room : ℕ) → length r ≡ 16 → 36 ≤ room → record_number r room ≡ 0
record-taken r room l h = record-fits r room (no-misfit (length r) 16 room 36 l h)
