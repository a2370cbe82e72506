-- Laws of the failed tries: a count that holds at its most, and each count by its own interface. Assumes nothing.
use Rattle.std.specs.Prelude.{◌≡◌, refl, Bool, true, false, cond, ◌&&◌, ◌||◌, ℕ, ◌+◌, ◌≤◌, eqb}
use Rattle.std.proofs.Common.{sym, subst, arith, eqb-true, ne_eqb}
use Rattle.plaid_types.specs.Tries.{is_interface, interface_number, holding, one_more, tries_after, tries_on}
use Rattle.plaid_types.specs.declared.Interface.{Interface}
use Rattle.plaid_types.specs.declared.Interface.TheVariants.{Contact, Contactless}
use Rattle.plaid_types.specs.declared.Tries.{Tries}

pub holding-small : (n : ℕ) → n ≤ 65535 → holding n ≡ n
unfolding holding
holding-small n h = omega arith

pub holding-large : (n : ℕ) → 65535 ≤ n → holding n ≡ 65535
unfolding holding
holding-large n h = omega arith

pub holding-most : (n : ℕ) → holding n ≤ 65535
unfolding holding
holding-most n = omega arith

-- what was held and then counted on is held all the same
pub holding-more : (n m : ℕ) → holding (holding n + m) ≡ holding (n + m)
unfolding holding
holding-more n m = omega arith

-- what holds of the two holds of an interface
pub each-interface : (P : ℕ → Type 0) → P 0 → P 1 → (j : ℕ) → is_interface j ≡ true → P j
unfolding is_interface
each-interface P a b j k = by (eqb j 0) refl k
  where
    by : (t : Bool) → eqb j 0 ≡ t → (t || eqb j 1) ≡ true → P j
    by true e q = subst P (sym (eqb-true j 0 e)) a
    by false e q = subst P (sym (eqb-true j 1 q)) b

-- "A try on one interface never moves the other's count": the count of interface j goes by calls on j alone
pub count-after : (i j : ℕ) → is_interface j ≡ true → (refused : Bool) (t : Tries) → tries_on j (tries_after i refused t) ≡ cond (refused && eqb i j) (one_more (tries_on j t)) (tries_on j t)
unfolding tries_after
count-after i j k refused t = each-interface (λ (m : ℕ). tries_on m (tries_after i refused t) ≡ cond (refused && eqb i m) (one_more (tries_on m t)) (tries_on m t)) refl refl j k

-- the interfaces have the two numbers that are known
pub interface-known : (k : Interface) → is_interface (interface_number k) ≡ true
unfolding is_interface
interface-known Contact = refl
interface-known Contactless = refl

pub interface-else : (i : ℕ) → (i ≡ 0 → ⊥) → (i ≡ 1 → ⊥) → is_interface i ≡ false
unfolding is_interface
interface-else i a b = simp (ne_eqb i 0 a, ne_eqb i 1 b)

-- the counts after a call on each: x is the one that may move
pub after-contact : {i x : ℕ} (refused : Bool) (t : Tries) → i ≡ 0 → x ≡ cond refused (one_more t.contact) t.contact → record { contact = x; contactless = t.contactless } ≡ tries_after i refused t
unfolding tries_after
after-contact true t e q = rw (e, q)
after-contact false t e q = rw q

pub after-contactless : {i x : ℕ} (refused : Bool) (t : Tries) → i ≡ 1 → x ≡ cond refused (one_more t.contactless) t.contactless → record { contact = t.contact; contactless = x } ≡ tries_after i refused t
unfolding tries_after
after-contactless true t e q = rw (e, q)
after-contactless false t e q = rw q

-- and after one on another number
else-by : (a b refused : Bool) (t : Tries) → (a || b) ≡ false →
    t ≡ record { contact = cond (refused && a) (one_more t.contact) t.contact; contactless = cond (refused && b) (one_more t.contactless) t.contactless }
else-by false false true t e = refl
else-by false false false t e = refl
else-by true b refused t e = cc
else-by false true refused t e = cc

pub after-else : (i : ℕ) (refused : Bool) (t : Tries) → is_interface i ≡ false → t ≡ tries_after i refused t
unfolding is_interface tries_after
after-else i refused t e = else-by (eqb i 0) (eqb i 1) refused t e
