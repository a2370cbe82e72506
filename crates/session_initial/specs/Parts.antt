-- A part of joined lists is the list that stands there. Assumes nothing.
use Rattle.std.specs.Prelude.{◌≡◌, List, [], ◌++◌, ℕ, ◌+◌, length, take, drop}
use Rattle.std.proofs.Common.{sym, ap, ◌∙◌, append-nil, take_at, drop_at}
use Rattle.std.proofs.Math.Seq.{drop-append-add}
use Rattle.octets.specs.Lists.{part}

-- the list of k elements that stands behind n elements and before r
pub part-after : (p m r : List ℕ) (n k : ℕ) → length p ≡ n → length m ≡ k → part (p ++ (m ++ r)) n k ≡ m
unfolding part
part-after p m r n k a b = ap (take k) (drop_at p (m ++ r) n a) ∙ take_at m r k b

-- the last list
pub part-last : (p m : List ℕ) (n k : ℕ) → length p ≡ n → length m ≡ k → part (p ++ m) n k ≡ m
part-last p m n k a b = ap (λ (x : List ℕ). part (p ++ x) n k) (sym (append-nil m)) ∙ part-after p m [] n k a b

-- a part that starts j elements behind p is the part at j of what follows p
pub part-behind : (p q : List ℕ) (n j k : ℕ) → n ≡ length p + j → part (p ++ q) n k ≡ part q j k
unfolding part
part-behind p q n j k e = ap (λ (i : ℕ). take k (drop i (p ++ q))) e ∙ ap (take k) (drop-append-add p q j)
