-- Laws of padding method 2: the zero bytes are the fewest, lengths, and that padding and unpadding undo each other. Assumes nothing.
use Rattle.std.specs.Prelude.{◌≡◌, refl, Bool, Option, Some, None, true, false, cond, List, ◌∷◌, ℕ, zero, suc, ◌+◌, ◌-◌, ◌*◌, ◌%◌, ◌<◌, ◌≤◌, eqb, length, get_or, take, drop, replicate}
use Rattle.std.proofs.Common.{sym, ap, ◌∙◌, ⊎_elim, eq-or-lt_of_le, not-suc-le-zero, arith, eqb-true, ltb-true, eq-eqb, ne_eqb, lt-ltb, length-append, length-drop, length-take-le, get_or-append-add, get_or-drop, ext_get_or}
use Rattle.std.proofs.Math.Bool.{and-eq-true_iff}
use Rattle.std.proofs.lemmas.List.{length-replicate, get_or_at}
use Rattle.std.proofs.Math.Seq.{split_at}
use Rattle.octets.specs.Bytes.{Bytes}
use Rattle.octets.specs.ByteLists.{cons-bytes, append-bytes, zeros-bytes}
use Rattle.padding.specs.Method2.{blocks_for, zero_bytes, padded, text_end, end, rightly, unpadded}

-- the zero bytes fill the blocks, they are fewer than a block, and no fewer fill any number of blocks
pub fills : (t : ℕ) → t + 1 + zero_bytes t ≡ 16 * blocks_for t
fills t = omega arith

pub fewest : (t : ℕ) → zero_bytes t < 16
fewest t = omega arith

pub no-fewer : (t z k : ℕ) → t + 1 + z ≡ 16 * k → zero_bytes t ≤ z
no-fewer t z k e = omega arith

pub padded-bytes : (s : List ℕ) → Bytes s → Bytes (padded s)
unfolding padded
padded-bytes s h =
    let z : List ℕ = replicate (zero_bytes (length s)) 0 in
    append-bytes s (0x80 ∷ z) h (cons-bytes 0x80 z (omega arith) (zeros-bytes (zero_bytes (length s))))

pub length-padded : (s : List ℕ) → length (padded s) ≡ 16 * blocks_for (length s)
unfolding padded
length-padded s = length-append s (0x80 ∷ replicate (zero_bytes (length s)) 0) ∙ omega (arith, length-replicate {A = ℕ} (zero_bytes (length s)) 0)

-- the end is within the bytes looked at
end_step : (s : List ℕ) (n : ℕ) (b : Bool) → text_end s n ≤ n → cond b (text_end s n) (suc n) ≤ suc n
end_step s n true h = omega arith
end_step s n false h = omega arith

pub text_end-le : (s : List ℕ) (n : ℕ) → text_end s n ≤ n
unfolding text_end
text_end-le s zero = omega arith
text_end-le s (suc n) = end_step s n (eqb (get_or s n 0) 0) (text_end-le s n)

-- a zero byte leaves it, any other moves it
pub end-zero : (s : List ℕ) (n : ℕ) → get_or s n 0 ≡ 0 → text_end s (suc n) ≡ text_end s n
unfolding text_end
end-zero s n e = simp (eq-eqb (get_or s n 0) 0 e)

pub end-moves : (s : List ℕ) (n : ℕ) → (get_or s n 0 ≡ 0 → ⊥) → text_end s (suc n) ≡ suc n
unfolding text_end
end-moves s n e = simp (ne_eqb (get_or s n 0) 0 e)

-- behind it all bytes are zero
behind-step : (s : List ℕ) (n k : ℕ) (b : Bool) → eqb (get_or s n 0) 0 ≡ b → (text_end s n ≤ k → k < n → get_or s k 0 ≡ 0) → cond b (text_end s n) (suc n) ≤ k → k < suc n → get_or s k 0 ≡ 0
behind-step s n k true e f h l =
    ⊎_elim (λ (p : k ≡ n). rw p (eqb-true (get_or s n 0) 0 e)) (λ (p : k < n). f h p) (eq-or-lt_of_le (omega arith))
behind-step s n k false e f h l = omega arith

pub behind : (s : List ℕ) (n k : ℕ) → text_end s n ≤ k → k < n → get_or s k 0 ≡ 0
unfolding text_end
behind s zero k h l = absurd (not-suc-le-zero l)
behind s (suc n) k h l = behind-step s n k (eqb (get_or s n 0) 0) refl (behind s n k) h l

-- what has a nonzero byte before it and zero bytes behind it is the end
pub end_is : (s : List ℕ) (n p : ℕ) → p < n → (get_or s p 0 ≡ 0 → ⊥) → ((k : ℕ) → p < k → k < n → get_or s k 0 ≡ 0) → text_end s n ≡ suc p
end_is s zero p h a f = absurd (not-suc-le-zero h)
end_is s (suc n) p h a f =
    ⊎_elim (λ (e : p ≡ n). rw e (end-moves s n (rw e at a)))
    (λ (l : p < n). end-zero s n (f n l (omega arith)) ∙ end_is s n p l a (λ k u v. f k u (omega arith)))
    (eq-or-lt_of_le (omega arith))

-- the bytes of a padded text
zeros-at : (n k : ℕ) → ◌≡◌ {A = ℕ} (get_or (replicate n 0) k 0) 0
zeros-at zero k = refl
zeros-at (suc n) zero = refl
zeros-at (suc n) (suc k) = zeros-at n k

padded-one : (s : List ℕ) → get_or (padded s) (length s) 0 ≡ 0x80
unfolding padded
padded-one s = get_or_at s 0x80 (replicate (zero_bytes (length s)) 0) 0 (length s) refl

padded-zero : (s : List ℕ) (k : ℕ) → length s < k → get_or (padded s) k 0 ≡ 0
unfolding padded
padded-zero s k h =
    let e : k ≡ length s + suc (k - suc (length s)) = omega arith in
    ap (λ (m : ℕ). get_or (padded s) m 0) e
    ∙ get_or-append-add s (0x80 ∷ replicate (zero_bytes (length s)) 0) (suc (k - suc (length s))) 0
    ∙ zeros-at (zero_bytes (length s)) (k - suc (length s))

end-padded : (s : List ℕ) → end (padded s) ≡ suc (length s)
end-padded s =
    end_is (padded s) (length (padded s)) (length s) (omega (arith, length-padded s))
    (λ z. let q = sym z ∙ padded-one s in omega arith)
    (λ k h l. padded-zero s k h)

-- what unpadding has seen where it answers with a text of n bytes
pub record Seen (s : List ℕ) (n : ℕ) : Type 0 where
  pub whole : length s % 16 ≡ 0
  pub ends : end s ≡ suc n
  pub one : get_or s n 0 ≡ 0x80
  pub last : length s ≤ n + 16

seen_by : (s : List ℕ) (n : ℕ) (b : Bool) → rightly s ≡ b → cond b (Some (end s - 1)) None ≡ Some n → Seen s n
unfolding rightly
seen_by s n true e q =
    let m : end s - 1 ≡ n = cc in
    let a = (and-eq-true_iff _ _).0 e in
    let b = (and-eq-true_iff _ _).0 a.1 in
    let c = (and-eq-true_iff _ _).0 b.1 in
    let p : 0 < end s = ltb-true 0 (end s) b.0 in
    let l : length s < end s + 16 = ltb-true (length s) (end s + 16) c.1 in
    record {
      whole = eqb-true (length s % 16) 0 a.0;
      ends = omega arith;
      one = rw m at (eqb-true (get_or s (end s - 1) 0) 0x80 c.0);
      last = omega arith;
    }
seen_by s n false e q = let z : ◌≡◌ {A = ℕ} 0 1 = cc in omega arith

pub seen : (s : List ℕ) (n : ℕ) → unpadded s ≡ Some n → Seen s n
unfolding unpadded
seen s n q = seen_by s n (rightly s) refl q

-- and where it has seen that, the text is rightly padded, and it answers so; where there is no such n, it answers None
pub rightly-seen : (s : List ℕ) (n : ℕ) → Seen s n → rightly s ≡ true
unfolding rightly
rightly-seen s n k =
    let p : suc n - 1 ≡ n = omega arith in
    simp (
      k.ends,
      eq-eqb (length s % 16) 0 k.whole,
      lt-ltb 0 (suc n) (omega arith),
      p,
      k.one,
      lt-ltb (length s) (suc n + 16) (omega (arith, k.last)),
    )

pub seen-text : (s : List ℕ) (n : ℕ) → Seen s n → unpadded s ≡ Some n
unfolding unpadded
seen-text s n k =
    let p : suc n - 1 ≡ n = omega arith in
    simp (rightly-seen s n k, k.ends, p)

malformed-by : (s : List ℕ) (u : Option ℕ) → unpadded s ≡ u → ((n : ℕ) → Seen s n → ⊥) → u ≡ None
malformed-by s (Some n) e f = absurd (f n (seen s n e))
malformed-by s None e f = refl

pub seen_none : (s : List ℕ) → ((n : ℕ) → Seen s n → ⊥) → unpadded s ≡ None
seen_none s f = malformed-by s (unpadded s) refl f

-- where unpadding answers, the text is shorter than what was unpadded, which is whole blocks
pub unpadded-lt : (s : List ℕ) (n : ℕ) → unpadded s ≡ Some n → n < length s
unpadded-lt s n q = let k = seen s n q in omega (arith, text_end-le s (length s))

pub unpadded-whole : (s : List ℕ) (n : ℕ) → unpadded s ≡ Some n → length s ≡ 16 * blocks_for n
unpadded-whole s n q = let k = seen s n q in omega (arith, unpadded-lt s n q)

zeros-behind : (s : List ℕ) (n : ℕ) → Seen s n → drop (suc n) s ≡ replicate (length s - suc n) 0
zeros-behind s n k =
    ext_get_or 0 (drop (suc n) s) (replicate (length s - suc n) 0) (length-drop (suc n) s ∙ sym (length-replicate {A = ℕ} (length s - suc n) 0))
    (λ i h.
    get_or-drop (suc n) s i 0
    ∙ behind s (length s) (suc n + i) (omega (arith, k.ends)) (omega (arith, length-drop (suc n) s))
    ∙ sym (zeros-at (length s - suc n) i))

-- and padding that text gives back what was unpadded
pub padded-unpadded : (s : List ℕ) (n : ℕ) → unpadded s ≡ Some n → padded (take n s) ≡ s
unfolding padded
padded-unpadded s n q =
    let k = seen s n q in
    let l : n < length s = unpadded-lt s n q in
    let t : length (take n s) ≡ n = length-take-le n s (omega arith) in
    let z : zero_bytes n ≡ length s - suc n = omega (arith, unpadded-whole s n q) in
    let e : replicate (zero_bytes (length (take n s))) 0 ≡ drop (suc n) s = ap (λ (m : ℕ). replicate {A = ℕ} m 0) (ap zero_bytes t ∙ z) ∙ sym (zeros-behind s n k) in
    rw (e, ← k.one) (sym (split_at s n 0 l))

-- unpadding a padded text gives the text
pub unpadded-padded : (s : List ℕ) → unpadded (padded s) ≡ Some (length s)
unpadded-padded s =
    seen-text (padded s) (length s)
    (record {
      whole = omega (arith, length-padded s);
      ends = end-padded s;
      one = padded-one s;
      last = omega (arith, length-padded s);
    })
