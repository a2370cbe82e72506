-- Laws of a UUID's groups of digits: lengths, and what stands at each place. Assumes nothing.
use Rattle.std.specs.Prelude.{◌≡◌, true, List, ℕ, ◌+◌, ◌*◌, ◌/◌, ◌≤◌, eqb, length, get_or}
use Rattle.std.proofs.Common.{ap, ◌∙◌, arith, eqb-true, length-append}
use Rattle.octets.specs.Lists.{part, length_part}
use Rattle.octets.specs.Same.{split-and}
use Rattle.conversion.specs.Conversion.{each}
use Rattle.hexadecimal.specs.Hexadecimal.{is_digit, octets_of, digits_of}
use Rattle.hexadecimal.specs.Laws.{length_digits, length-octets}
use Rattle.uuids.specs.Uuid.{hyphen, text_of, record_of, group_at, formed}

-- a part of a text as octets, and of a record as digits
pub octets-long : (t : List ℕ) (at n : ℕ) → at + n ≤ length t → length (octets_of (part t at n)) ≡ n / 2
octets-long t at n h = length-octets (part t at n) ∙ ap (λ (k : ℕ). k / 2) (length_part t at n h)

pub group-taken : (t : List ℕ) (at n : ℕ) {g : List ℕ} → at + n ≤ length t → g ≡ part t at n → each is_digit (part t at n) ≡ true → (each is_digit g ≡ true) × (length (octets_of g) ≡ n / 2)
group-taken t at n h e d = (ap (each is_digit) e ∙ d, ap (λ (s : List ℕ). length (octets_of s)) e ∙ octets-long t at n h)

pub digits_long : (r : List ℕ) (at n : ℕ) → at + n ≤ length r → length (digits_of (part r at n)) ≡ 2 * n
digits_long r at n h = length_digits (part r at n) ∙ ap (λ (k : ℕ). 2 * k) (length_part r at n h)

pub length-record : (t : List ℕ) → length t ≡ 36 → length (record_of t) ≡ 16
unfolding record_of
length-record t h =
    simp length-append
    (omega (arith, octets-long t 0 8 (omega arith), octets-long t 9 4 (omega arith), octets-long t 14 4 (omega arith), octets-long t 19 4 (omega arith), octets-long t 24 12 (omega arith)))

pub length-text : (r : List ℕ) → length r ≡ 16 → length (text_of r) ≡ 36
unfolding text_of
length-text r h =
    simp length-append
    (omega (arith, digits_long r 0 4 (omega arith), digits_long r 4 2 (omega arith), digits_long r 6 2 (omega arith), digits_long r 8 2 (omega arith), digits_long r 10 6 (omega arith)))

-- a hyphen at place p, and n digits behind it
abbrev pub Group : List ℕ → ℕ → ℕ → Type 0
Group t p n = (get_or t p 0 ≡ hyphen) × (each is_digit (part t (p + 1) n) ≡ true)

group-true : (t : List ℕ) (p n : ℕ) → group_at t p n ≡ true → Group t p n
unfolding group_at
group-true t p n e = let q = split-and (eqb (get_or t p 0) hyphen) (each is_digit (part t (p + 1) n)) e in (eqb-true (get_or t p 0) hyphen q.0, q.1)

-- what stands at each place of a formed text
pub record Formed (t : List ℕ) : Type 0 where
  pub low : each is_digit (part t 0 8) ≡ true
  pub mid : Group t 8 4
  pub high : Group t 13 4
  pub clock : Group t 18 4
  pub node : Group t 23 12

pub formed-true : (t : List ℕ) → formed t ≡ true → Formed t
unfolding formed
formed-true t e =
    let a = split-and (each is_digit (part t 0 8)) _ e in
    let b = split-and (group_at t 8 4) _ a.1 in
    let c = split-and (group_at t 13 4) _ b.1 in
    let d = split-and (group_at t 18 4) (group_at t 23 12) c.1 in
    record { low = a.0; mid = group-true t 8 4 b.0; high = group-true t 13 4 c.0; clock = group-true t 18 4 d.0; node = group-true t 23 12 d.1 }
