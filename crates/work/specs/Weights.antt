-- The work sum of a list by weights: each byte times a power of 257. Assumes nothing.
use Rattle.std.specs.Prelude.{◌≡◌, refl, List, [], ◌∷◌, ℕ, zero, suc, ◌+◌, ◌*◌, ◌/◌, ◌%◌, ◌^◌, ◌<◌, length}
use Rattle.std.proofs.Common.{sym, ap, ◌∙◌, pow-suc, mul_assoc, mul_comm, mul_left_comm, mul-add, add-zero, arith}
use Rattle.work.specs.declared.Prepared.{Prepared}
use Rattle.work.specs.Steps.{Step, bytes_of, mixed, mixed_all}
use Rattle.work.specs.Laws.{mixed-step}

-- of a byte that n bytes stand behind
abbrev pub weight : ℕ → ℕ
weight n = 257 ^ n % 2 ^ 32

abbrev pub weighed : List ℕ → ℕ
weighed [] = 0
weighed (b ∷ bs) = weight (length bs) * b + weighed bs

-- the ones that n bytes bring with them
abbrev pub ones : ℕ → ℕ
ones zero = 0
ones (suc n) = weight n + ones n

-- a factor counts modulo 2^32
reduced : (w x d : ℕ) → (w * (x % 2 ^ 32) + d) % 2 ^ 32 ≡ (w * x + d) % 2 ^ 32
reduced w x d =
    let e : x ≡ x / 2 ^ 32 * 2 ^ 32 + x % 2 ^ 32 = omega arith in
    let f : w * x ≡ w * (x / 2 ^ 32) * 2 ^ 32 + w * (x % 2 ^ 32) =
    ap (λ (y : ℕ). w * y) e ∙ mul-add w (x / 2 ^ 32 * 2 ^ 32) (x % 2 ^ 32) ∙ ap (λ (y : ℕ). y + w * (x % 2 ^ 32)) (sym (mul_assoc w (x / 2 ^ 32) (2 ^ 32))) in
    omega (arith, f)

-- one byte more
pub up : (n : ℕ) → weight (suc n) ≡ 257 * weight n % 2 ^ 32
up n =
    ap (λ (x : ℕ). x % 2 ^ 32) (pow-suc 257 n ∙ mul_comm (257 ^ n) 257 ∙ sym (add-zero (257 * 257 ^ n)))
    ∙ sym (reduced 257 (257 ^ n) 0)
    ∙ ap (λ (x : ℕ). x % 2 ^ 32) (add-zero (257 * weight n))

split : (w s b : ℕ) → w * (257 * s + b + 1) ≡ s * (257 * w) + (w * b + w)
split w s b = omega (arith, mul-add w (257 * s + b) 1, mul-add w (257 * s) b, mul_left_comm w 257 s, mul_left_comm s 257 w, mul_comm w s)

-- one byte in front of n others, which come to d
next : (n s b d : ℕ) → (weight n * mixed s b + d) % 2 ^ 32 ≡ (weight (suc n) * s + (weight n * b + weight n + d)) % 2 ^ 32
unfolding mixed
next n s b d =
    let w : ℕ = weight n in
    let e : ℕ = w * b + w + d in
    let f : w * (257 * s + b + 1) + d ≡ s * (257 * w) + e = omega (arith, split w s b) in
    reduced w (257 * s + b + 1) d
    ∙ ap (λ (y : ℕ). y % 2 ^ 32) f
    ∙ sym (reduced s (257 * w) e)
    ∙ ap (λ (y : ℕ). (y + e) % 2 ^ 32) (ap (λ (y : ℕ). s * y) (sym (up n)) ∙ mul_comm s (weight (suc n)))

-- from any sum
pub mixed-weighed : (s : ℕ) (l : List ℕ) → s < 2 ^ 32 → mixed_all s l ≡ (weight (length l) * s + (weighed l + ones (length l))) % 2 ^ 32
unfolding mixed
mixed-weighed s [] h = omega arith
mixed-weighed s (b ∷ bs) h =
    mixed-weighed (mixed s b) bs (omega arith)
    ∙ next (length bs) s b (weighed bs + ones (length bs))
    ∙ omega arith

-- what a list does to any sum, as two numbers
abbrev pub prepared_of : List ℕ → Prepared
prepared_of l = record { weight = weight (length l); rest = mixed_all 0 l }

abbrev pub mixed_prepared : ℕ → Prepared → ℕ
mixed_prepared s r = (r.weight * s + r.rest) % 2 ^ 32

pub prepared-mixed : (s : ℕ) (l : List ℕ) → s < 2 ^ 32 → mixed_prepared s (prepared_of l) ≡ mixed_all s l
prepared-mixed s l h =
    let d : ℕ = weighed l + ones (length l) in
    let z : mixed_all 0 l ≡ d % 2 ^ 32 = mixed-weighed 0 l (omega arith) ∙ omega arith in
    ap (λ (x : ℕ). (weight (length l) * s + x) % 2 ^ 32) z ∙ last (weight (length l) * s) d ∙ sym (mixed-weighed s l h)
  where
    last : (a d : ℕ) → (a + d % 2 ^ 32) % 2 ^ 32 ≡ (a + d) % 2 ^ 32
    last a d = omega arith

-- a cipher's step with its key prepared
pub prepared-step : (s : ℕ) (t : Step) {r : Prepared} → r ≡ prepared_of t.key → mixed_all (mixed_all (mixed_prepared (mixed s t.kind) r) t.input) t.output ≡ mixed_all s (bytes_of t)
unfolding mixed
prepared-step s t e = mixed-step s t refl (ap (mixed_prepared (mixed s t.kind)) e ∙ prepared-mixed (mixed s t.kind) t.key (omega arith)) refl refl
