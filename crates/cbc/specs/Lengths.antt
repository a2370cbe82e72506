-- The lengths of CBC's blocks, for every cipher that gives blocks. Assumes nothing.
use Rattle.std.specs.Prelude.{◌≡◌, refl, List, ℕ, zero, suc, ◌*◌, length, drop}
use Rattle.std.proofs.Common.{◌∙◌, arith, length-append}
use Rattle.octets.specs.Lists.{part}
use Rattle.cbc.specs.Cbc.{◌⊕◌, encrypted, decrypted}

pub length-encrypted : (ciph : List ℕ → List ℕ) → ((x : List ℕ) → length (ciph x) ≡ 16) → (n : ℕ) (iv s : List ℕ) → length (encrypted ciph iv n s) ≡ 16 * n
unfolding encrypted
length-encrypted ciph h zero iv s = refl
length-encrypted ciph h (suc n) iv s =
    let x : List ℕ = part s 0 16 ⊕ iv in
    length-append (ciph x) (encrypted ciph (ciph x) n (drop 16 s)) ∙ omega (arith, h x, length-encrypted ciph h n (ciph x) (drop 16 s))

pub length-decrypted : (inv : List ℕ → List ℕ) (n : ℕ) (iv s : List ℕ) → length (decrypted inv iv n s) ≡ 16 * n
unfolding decrypted ◌⊕◌
length-decrypted inv zero iv s = refl
length-decrypted inv (suc n) iv s =
    length-append (inv (part s 0 16) ⊕ iv) (decrypted inv (part s 0 16) n (drop 16 s))
    ∙ omega (arith, length-decrypted inv n (part s 0 16) (drop 16 s))
