-- What unpadding tells of the conditions on a text. Assumes nothing.
use mathlib.Core.Path.{◌≡◌, refl}
use mathlib.Core.Bool.{Bool, true, false, cond, ◌&&◌, and_assoc}
use mathlib.Core.List.{List}
use Prim.Native.Nat.{ℕ, ◌+◌, ◌-◌, ◌*◌, ◌≤◌}
use native.Mathlib.Omega.{arith}
use lib.Dec.{leb}
use lib.ListN.{length}
use Rattle.octets.specs.Lists.{part}
use Rattle.octets.specs.Bytes.{same}
use Rattle.padding.specs.Method2.{rightly, end, unpadded}
use Rattle.padding.specs.Laws.{unpadded-lt}
use Rattle.std.specs.Prelude.{Some, None}
use Rattle.final_command.specs.Parts.{sealing}

text-by : (s : List ℕ) (t : ℕ) (b : Bool) → cond b (Some (end s - 1)) None ≡ Some t → (b ≡ true) × (end s - 1 ≡ t)
text-by s t true q = (refl, cc)
text-by s t false q = absurd (let z : ◌≡◌ {A = ℕ} 0 1 = cc in omega arith)

malformed-by : (s : List ℕ) (b : Bool) → cond b (Some (end s - 1)) None ≡ None → b ≡ false
malformed-by s true q = absurd (let z : ◌≡◌ {A = ℕ} 0 1 = cc in omega arith)
malformed-by s false q = refl

pub text-seen : (s : List ℕ) (t : ℕ) → unpadded s ≡ Some t → (rightly s ≡ true) × (end s - 1 ≡ t)
unfolding unpadded
text-seen s t q = text-by s t (rightly s) q

pub malformed-seen : (s : List ℕ) → unpadded s ≡ None → rightly s ≡ false
unfolding unpadded
malformed-seen s q = malformed-by s (rightly s) q

-- a text that is rightly padded: the conditions on its end
pub text-judged : (s hash : List ℕ) (held : Bool) (t : ℕ) → unpadded s ≡ Some t →
    ((leb (2 + 2 * length hash) t && same (part s (t - length hash) (length hash)) hash) && held) ≡ sealing s hash held
text-judged s hash held t q =
    let p = text-seen s t q in
    rw (p.0, p.1) (and_assoc (leb (2 + 2 * length hash) t) (same (part s (t - length hash) (length hash)) hash) held)

pub malformed-judged : (s : List ℕ) (rest : Bool) → unpadded s ≡ None → false ≡ (rightly s && rest)
malformed-judged s rest q = rw (malformed-seen s q)

pub text-within : (s : List ℕ) (t : ℕ) → unpadded s ≡ Some t → t ≤ length s
text-within s t q = omega (arith, unpadded-lt s t q)
