-- `sha_block::full_schedule` meets its contract: each turn of the inner loop puts one word more after those of the
-- schedule. Assumes nothing.
use mir.Val.{bool_byte}
use Rattle.std.proofs.Common.{◌≡◌, ◌≢◌, ◌⊎◌, sym, ap, ap₂, ◌∙◌, List, [], ◌∷◌, ◌++◌, ℕ, suc, ◌+◌, ◌<◌, get_or, take, set, length-set, get_or-take, arith, rules}
use Rattle.std.proofs.Math.Dec.{eqb}
use Rattle.std.proofs.Math.Seq.{take-suc-set, take_all}
use Rattle.sha_block.specs.Hash.{next_word, schedule}
use Rattle.sha_block.proofs.full_schedule.Invariants.{Grown}
use Rattle.sha_block.proofs.full_schedule.Goals as goal

module _ {m w : List ℕ} (n : ℕ) (g : Grown m w n) where
  at : (i : ℕ) → i < n + 16 → get_or w i 0 ≡ get_or (schedule m n) i 0
  at i l = sym (get_or-take (n + 16) w i 0 l) ∙ ap (λ (t : List ℕ). get_or t i 0) g.made

  -- the next word is that of the words so far
  next : next_word w n ≡ next_word (schedule m n) n
  next =
      let p = at (n + 14) (omega arith) in
      let q = at (n + 9) (omega arith) in
      let r = at (n + 1) (omega arith) in
      let t = at n (omega arith) in
      cc

  -- one word more, at k, made from place i
  grown : (s k i : ℕ) {v : ℕ} → n < 48 → s ≡ suc n → k ≡ n + 16 → i ≡ n → v ≡ next_word w i → Grown m (set w k v) s
  unfolding schedule
  grown s k i {v} h p q e f = record {
    long = length-set w k v ∙ g.long;
    made =
        ap₂ (λ (i j : ℕ). take i (set w j v)) one q
        ∙ take-suc-set w (n + 16) v (omega arith)
        ∙ ap₂ (λ (l : List ℕ) (x : ℕ). l ++ (x ∷ [])) g.made (f ∙ ap (next_word w) e ∙ next)
        ∙ ap (schedule m) (sym p);
  }
    where
      one : s + 16 ≡ suc (n + 16)
      one = omega arith

-- what a test adds to a place
cast : (a b : ℕ) → ((bool_byte (eqb a b) ≡ 1) × (a ≡ b)) ⊎ ((bool_byte (eqb a b) ≡ 0) × (a ≢ b))
cast a b = grind arith

pub loop-i-init : goal.loop-i-init
unfolding schedule
loop-i-init c = record { long = search (rules, c.load-w.type_inv); made = c.load-w.ensures }

pub loop-j-preserved : goal.loop-j-preserved
loop-j-preserved c =
    grown _ c.loop-j.invariant _ _ _ (omega arith) (omega arith) (omega arith) (omega (arith, cast)) c.next_word.ensures

pub returns : goal.returns
returns c =
    let l = c.loop-i in
    let e : l.i ≡ 6 = omega arith in
    let g = rw e at l.invariant in
    sym (take_all 64 l.w (omega (arith, g.long))) ∙ g.made
