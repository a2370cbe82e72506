-- Words under ∧, ⊕ and rotation: ∧ and a rotation distribute over ⊕, two rotations are one, and the short forms of the six functions that
-- the code has. Assumes nothing.
use Rattle.std.specs.Prelude.{◌≡◌, ℕ, zero, suc, ◌+◌, ◌-◌, ◌*◌, ◌/◌, ◌%◌, ◌^◌, ◌<◌, ◌≤◌, bit_and, bit_or, bit_xor, refl}
use Rattle.std.proofs.Common.{sym, ap, ap₂, subst, ◌∙◌, add_comm, add_assoc, mul_assoc, add-mul, add-zero, lt_of_le_of_lt, mod-lt, mod-eq_of_lt, div-add-mod', zero-lt-suc, arith, pow_pos, pow-add, shr_lt, shr-shr}
use Rattle.std.proofs.Math.Nat.{mul-mod_left, add-mul-mod_self_right, add-mul-div_right}
use Rattle.std.proofs.Math.Arith.{bin_ind}
use Rattle.std.proofs.lemmas.Nat.{shl-shr, shr_le, mod-pow-add, xor_lt, xor_comm, xor_block, xor_shr, xor_mod, and_comm, and_mask, and_shr, and_mod, or_lt}
use Rattle.std.specs.Int.Bits.{xor_add_and, and_self, or_shifted_r}
use Rattle.octets.specs.Xor.{xor_assoc, xor-cancel}
use Rattle.sha_words.specs.Words.{complement, rotr}
use Rattle.sha_words.specs.Functions.{ch, maj}

-- ∧ and ⊕: what holds of the last digits and of those before them holds
module _ (f : ℕ → ℕ) (and-f : (a b : ℕ) → f (bit_and a b) ≡ bit_and (f a) (f b)) (xor-f : (a b : ℕ) → f (bit_xor a b) ≡ bit_xor (f a) (f b)) where
  through : (a b c : ℕ) → bit_and (f a) (bit_xor (f b) (f c)) ≡ bit_xor (bit_and (f a) (f b)) (bit_and (f a) (f c)) →
      f (bit_and a (bit_xor b c)) ≡ f (bit_xor (bit_and a b) (bit_and a c))
  through a b c e =
      and-f a (bit_xor b c) ∙ ap (bit_and (f a)) (xor-f b c) ∙ e ∙ sym (xor-f (bit_and a b) (bit_and a c) ∙ ap₂ bit_xor (and-f a b) (and-f a c))

one-and : (b : ℕ) → b < 2 → bit_and 1 b ≡ b
one-and b h = and_comm 1 b ∙ and_mask b 1 ∙ mod-eq_of_lt h

digit : (a b c : ℕ) → a < 2 → b < 2 → c < 2 → bit_and a (bit_xor b c) ≡ bit_xor (bit_and a b) (bit_and a c)
digit zero b c ha hb hc = refl
digit (suc zero) b c ha hb hc = one-and (bit_xor b c) (xor_lt 1 b c hb hc) ∙ sym (ap₂ bit_xor (one-and b hb) (one-and c hc))
digit (suc (suc a)) b c ha hb hc = omega arith

pub and_xor : (a b c : ℕ) → bit_and a (bit_xor b c) ≡ bit_xor (bit_and a b) (bit_and a c)
and_xor a =
    bin_ind (λ (n : ℕ). (b c : ℕ) → bit_and n (bit_xor b c) ≡ bit_xor (bit_and n b) (bit_and n c)) (λ b c. refl)
    (λ n ih b c.
    sym (div-add-mod' (bit_and n (bit_xor b c)) 2)
    ∙ ap₂ (λ (x y : ℕ). x * 2 + y)
    (through (λ x. x / 2) (λ x y. and_shr x y 1) (λ x y. xor_shr x y 1) n b c (ih (b / 2) (c / 2)))
    (through (λ x. x % 2) (λ x y. and_mod x y 1) (λ x y. xor_mod x y 1) n b c (digit (n % 2) (b % 2) (c % 2) (bit n) (bit b) (bit c)))
    ∙ div-add-mod' (bit_xor (bit_and n b) (bit_and n c)) 2)
    a
  where
    bit : (x : ℕ) → x % 2 < 2
    bit x = mod-lt x (zero-lt-suc 1)

pub xor-and : (a b c : ℕ) → bit_and (bit_xor a b) c ≡ bit_xor (bit_and a c) (bit_and b c)
xor-and a b c = and_comm (bit_xor a b) c ∙ and_xor c a b ∙ ap₂ bit_xor (and_comm c a) (and_comm c b)

-- the complement is the sum with the word of ones
pub xor_ones : (x : ℕ) → x < 2 ^ 32 → bit_xor x (2 ^ 32 - 1) ≡ complement x
xor_ones x h = omega (arith, xor_add_and x (2 ^ 32 - 1), and_mask x 32)

pub and-complement : (x z : ℕ) → x < 2 ^ 32 → z < 2 ^ 32 → bit_xor (bit_and x z) z ≡ bit_and (complement x) z
and-complement x z hx hz =
    ap (bit_xor (bit_and x z)) (sym (and_comm (2 ^ 32 - 1) z ∙ and_mask z 32 ∙ mod-eq_of_lt hz))
    ∙ sym (xor-and x (2 ^ 32 - 1) z)
    ∙ ap (λ (y : ℕ). bit_and y z) (xor_ones x hx)

pub ch-short : (x y z : ℕ) → x < 2 ^ 32 → z < 2 ^ 32 → bit_xor (bit_and x (bit_xor y z)) z ≡ ch x y z
unfolding ch
ch-short x y z hx hz =
    ap (λ (t : ℕ). bit_xor t z) (and_xor x y z) ∙ xor_assoc (bit_and x y) (bit_and x z) z ∙ ap (bit_xor (bit_and x y)) (and-complement x z hx hz)

pub maj-short : (x y z : ℕ) → bit_xor (bit_and (bit_xor x y) (bit_xor y z)) y ≡ maj x y z
unfolding maj
maj-short x y z =
    ap (λ (t : ℕ). bit_xor t y) (and_xor (bit_xor x y) y z ∙ ap₂ bit_xor (xor-and x y y ∙ ap (bit_xor (bit_and x y)) (and_self y)) (xor-and x y z))
    ∙ last (bit_and x y) (bit_and x z) (bit_and y z) y
  where
    last : (a b c d : ℕ) → bit_xor (bit_xor (bit_xor a d) (bit_xor b c)) d ≡ bit_xor (bit_xor a b) c
    last a b c d =
        ap (λ (t : ℕ). bit_xor t d) (xor_assoc a d (bit_xor b c) ∙ ap (bit_xor a) (xor_comm d (bit_xor b c)) ∙ sym (xor_assoc a (bit_xor b c) d))
        ∙ xor-cancel (bit_xor a (bit_xor b c)) d
        ∙ sym (xor_assoc a b c)

-- a rotation by its two parts: n digits go in front of the j others
module _ (n j : ℕ) (e : j + n ≡ 32) where
  others : {x : ℕ} → x < 2 ^ 32 → x / 2 ^ n < 2 ^ j
  others {x} h = shr_lt j n (subst (λ (k : ℕ). x < 2 ^ k) (sym e) h)

  abbrev parts : ℕ → ℕ
  parts x = x % 2 ^ n * 2 ^ j + x / 2 ^ n

  rotr-parts : {x : ℕ} → x < 2 ^ 32 → rotr n x ≡ parts x
  rotr-parts {x} h =
      ap₂ (λ (p q : ℕ). bit_or (x / 2 ^ n) (x * 2 ^ p % 2 ^ q)) d (sym e ∙ add_comm j n)
      ∙ ap (bit_or (x / 2 ^ n))
      (mod-pow-add (x * 2 ^ j) n j
      ∙ ap₂ (λ (p q : ℕ). p % 2 ^ n * 2 ^ j + q) (shl-shr x j) (mul-mod_left x (2 ^ j))
      ∙ add-zero (x % 2 ^ n * 2 ^ j))
      ∙ or_shifted_r (x % 2 ^ n) j (x / 2 ^ n) (others h)
    where
      d : 32 - n ≡ j
      d = omega arith

pub rotr-lt : (n x : ℕ) → x < 2 ^ 32 → rotr n x < 2 ^ 32
rotr-lt n x h = or_lt 32 (x / 2 ^ n) (x * 2 ^ (32 - n) % 2 ^ 32) (lt_of_le_of_lt (shr_le x n) h) (mod-lt (x * 2 ^ (32 - n)) (pow_pos 32))

pub rotr-xor : (n x y : ℕ) → n ≤ 32 → x < 2 ^ 32 → y < 2 ^ 32 → rotr n (bit_xor x y) ≡ bit_xor (rotr n x) (rotr n y)
rotr-xor n x y l hx hy =
    let j : ℕ = 32 - n in
    let e : j + n ≡ 32 = omega arith in
    rotr-parts n j e (xor_lt 32 x y hx hy)
    ∙ ap₂ (λ (p q : ℕ). p * 2 ^ j + q) (xor_mod x y n) (xor_shr x y n)
    ∙ sym (ap₂ bit_xor (rotr-parts n j e hx) (rotr-parts n j e hy) ∙ xor_block j (x % 2 ^ n) (y % 2 ^ n) (x / 2 ^ n) (y / 2 ^ n) (others n j e hx) (others n j e hy))

-- x is q · 2^m + s, and q gives n digits more
pub rotr-rotr : (n m x : ℕ) → n + m ≤ 32 → x < 2 ^ 32 → rotr n (rotr m x) ≡ rotr (n + m) x
rotr-rotr n m x l h =
    let k : ℕ = 32 - (n + m) in
    let q : ℕ = x / 2 ^ m in
    let s : ℕ = x % 2 ^ m in
    rotr-parts n (m + k) (omega arith) (rotr-lt m x h)
    ∙ ap (λ (y : ℕ). y % 2 ^ n * 2 ^ (m + k) + y / 2 ^ n)
    (rotr-parts m (k + n) (omega arith) h
    ∙ ap (λ (p : ℕ). s * p + q) (pow-add 2 k n)
    ∙ ap (λ (p : ℕ). p + q) (sym (mul_assoc s (2 ^ k) (2 ^ n)))
    ∙ add_comm (s * 2 ^ k * 2 ^ n) q)
    ∙ ap₂ (λ (p t : ℕ). p * 2 ^ (m + k) + t) (add-mul-mod_self_right q (s * 2 ^ k) (2 ^ n))
    (add-mul-div_right q (s * 2 ^ k) (pow_pos n) ∙ add_comm (q / 2 ^ n) (s * 2 ^ k))
    ∙ sym (add_assoc (q % 2 ^ n * 2 ^ (m + k)) (s * 2 ^ k) (q / 2 ^ n))
    ∙ ap₂ (λ (p t : ℕ). p + t)
    (ap (λ (p : ℕ). p + s * 2 ^ k) (ap (λ (p : ℕ). q % 2 ^ n * p) (pow-add 2 m k) ∙ sym (mul_assoc (q % 2 ^ n) (2 ^ m) (2 ^ k)))
    ∙ sym (add-mul (q % 2 ^ n * 2 ^ m) s (2 ^ k))
    ∙ ap (λ (p : ℕ). p * 2 ^ k) (sym (mod-pow-add x n m)))
    (shr-shr x m n ∙ ap (λ (p : ℕ). x / 2 ^ p) (add_comm m n))
    ∙ sym (rotr-parts (n + m) k (omega arith) h)

-- a rotation of a sum with a rotation: two rotations of x, and three
further : (a b x y : ℕ) → a + b ≤ 32 → x < 2 ^ 32 → y < 2 ^ 32 → rotr a (bit_xor (rotr b y) x) ≡ bit_xor (rotr a x) (rotr (a + b) y)
further a b x y l hx hy =
    rotr-xor a (rotr b y) x (omega arith) (rotr-lt b y hy) hx
    ∙ ap (λ (t : ℕ). bit_xor t (rotr a x)) (rotr-rotr a b y l hy)
    ∙ xor_comm (rotr (a + b) y) (rotr a x)

module _ (a b x : ℕ) (h : x < 2 ^ 32) where
  pub two-turns : {p q : ℕ} → p ≡ rotr b x → q ≡ rotr a (bit_xor p x) → a + b ≤ 32 → q ≡ bit_xor (rotr a x) (rotr (a + b) x)
  two-turns d e l = e ∙ ap (λ (t : ℕ). rotr a (bit_xor t x)) d ∙ further a b x x l h h

  pub three-turns : (c : ℕ) {p q r : ℕ} → p ≡ rotr c x → q ≡ rotr b (bit_xor p x) → r ≡ rotr a (bit_xor q x) → a + b + c ≤ 32 →
      r ≡ bit_xor (bit_xor (rotr a x) (rotr (a + b) x)) (rotr (a + b + c) x)
  three-turns c d e f l =
      f
      ∙ ap (λ (t : ℕ). rotr a (bit_xor t x)) (e ∙ ap (λ (t : ℕ). rotr b (bit_xor t x)) d)
      ∙ further a b x (bit_xor (rotr c x) x) (omega arith) h (xor_lt 32 (rotr c x) x (rotr-lt c x h) h)
      ∙ ap (bit_xor (rotr a x)) (further (a + b) c x x l h h)
      ∙ sym (xor_assoc (rotr a x) (rotr (a + b) x) (rotr (a + b + c) x))
