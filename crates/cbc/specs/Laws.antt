-- CBC's lengths and bytes, that each way undoes the other, and how many steps each makes. Assumes nothing.
use Rattle.std.specs.Prelude.{◌≡◌, List, ◌++◌, length, get_or, drop}
use Rattle.std.proofs.Math.Path.{refl}
use Rattle.std.proofs.Common.{sym, ap, ◌∙◌, zero-add, arith, ne_eqb}
use Prim.Native.Nat.{ℕ, zero, suc, ◌*◌, ◌/◌, ◌<◌, ◌≤◌}
use Rattle.std.specs.Int.Bits.{bit_xor}
use Rattle.std.proofs.lemmas.Nat.{xor_lt}
use Rattle.octets.specs.Bytes.{Bytes, Block, block_xor}
use Rattle.octets.specs.Lists.{table-all, table-ext, tabled, get_or-table, part}
use Rattle.octets.specs.Xor.{xor-cancel}
use Rattle.work.specs.Steps.{counted, decipherment, encipherment}
use Rattle.cbc.specs.Cbc.{◌⊕◌, encrypted, decrypted, encrypted_whole, decrypted_whole}
use Rattle.cbc.specs.Steps.{enciphered, deciphered}
use Rattle.cbc.specs.Chain.{chain, whole, chain-front, whole-all, chain-bytes, whole-bytes, length_whole, chain-undone, whole-undone}

pub xor_block : (a b : List ℕ) → Bytes a → Bytes b → Block (a ⊕ b)
unfolding ◌⊕◌
xor_block a b ha hb =
    record {
      long = refl;
      byte = table-all (λ (x : ℕ). x < 256) (λ i. bit_xor (get_or a i 0) (get_or b i 0)) 0 (λ m. xor_lt 8 (get_or a m 0) (get_or b m 0) (ha m) (hb m)) (omega arith) 16 0;
    }

-- a ⊕ b ⊕ b is a
pub xor-twice : (a b : List ℕ) → length a ≡ 16 → a ⊕ b ⊕ b ≡ a
unfolding ◌⊕◌
xor-twice a b e =
    table-ext (λ i. bit_xor (get_or (block_xor a b) i 0) (get_or b i 0)) (λ i. get_or a i 0) 16 0
    (λ i p q.
    ap (λ (x : ℕ). bit_xor x (get_or b i 0))
    (get_or-table (λ i. bit_xor (get_or a i 0) (get_or b i 0)) 16 0 i 0 (omega arith) ∙ ap (λ (k : ℕ). bit_xor (get_or a k 0) (get_or b k 0)) (zero-add i))
    ∙ xor-cancel (get_or a i 0) (get_or b i 0))
    ∙ sym (tabled (λ i. get_or a i 0) 16 0 a 0 (omega arith) (λ i h. refl))

-- encryption is the chain that hands on what it makes, decryption the one that hands on what it takes
abbrev pub link : (List ℕ → List ℕ) → List ℕ → List ℕ → List ℕ
link ciph c p = ciph (p ⊕ c)

abbrev pub unlink : (List ℕ → List ℕ) → List ℕ → List ℕ → List ℕ
unlink inv c x = inv x ⊕ c

abbrev pub taken : List ℕ → List ℕ → List ℕ
taken c x = x

pub encrypted-chain : (ciph : List ℕ → List ℕ) (n : ℕ) (iv s : List ℕ) → encrypted ciph iv n s ≡ chain (link ciph) (link ciph) iv n s
unfolding encrypted chain
encrypted-chain ciph zero iv s = refl
encrypted-chain ciph (suc n) iv s = ap (λ (x : List ℕ). ciph (part s 0 16 ⊕ iv) ++ x) (encrypted-chain ciph n (ciph (part s 0 16 ⊕ iv)) (drop 16 s))

pub decrypted-chain : (inv : List ℕ → List ℕ) (n : ℕ) (iv s : List ℕ) → decrypted inv iv n s ≡ chain (unlink inv) taken iv n s
unfolding decrypted chain
decrypted-chain inv zero iv s = refl
decrypted-chain inv (suc n) iv s = ap (λ (x : List ℕ). (inv (part s 0 16) ⊕ iv) ++ x) (decrypted-chain inv n (part s 0 16) (drop 16 s))

pub encrypted-whole : (ciph : List ℕ → List ℕ) (iv s : List ℕ) → encrypted_whole ciph iv s ≡ whole (link ciph) (link ciph) iv s
unfolding encrypted_whole whole
encrypted-whole ciph iv s = rw (encrypted-chain ciph (length s / 16) iv s)

pub decrypted-whole : (inv : List ℕ → List ℕ) (iv s : List ℕ) → decrypted_whole inv iv s ≡ whole (unlink inv) taken iv s
unfolding decrypted_whole whole
decrypted-whole inv iv s = rw (decrypted-chain inv (length s / 16) iv s)

-- whole blocks with nothing behind them
pub encrypted-all : (ciph : List ℕ → List ℕ) (n : ℕ) (iv s : List ℕ) → length s ≡ 16 * n → encrypted_whole ciph iv s ≡ encrypted ciph iv n s
encrypted-all ciph n iv s e = encrypted-whole ciph iv s ∙ whole-all (link ciph) (link ciph) n iv s e ∙ sym (encrypted-chain ciph n iv s)

pub decrypted-all : (inv : List ℕ → List ℕ) (n : ℕ) (iv s : List ℕ) → length s ≡ 16 * n → decrypted_whole inv iv s ≡ decrypted inv iv n s
decrypted-all inv n iv s e = decrypted-whole inv iv s ∙ whole-all (unlink inv) taken n iv s e ∙ sym (decrypted-chain inv n iv s)

-- what stands behind the n blocks does not matter
pub encrypted-front : (ciph : List ℕ → List ℕ) (n : ℕ) (iv s t : List ℕ) → 16 * n ≤ length s → encrypted ciph iv n (s ++ t) ≡ encrypted ciph iv n s
encrypted-front ciph n iv s t h = encrypted-chain ciph n iv (s ++ t) ∙ chain-front (link ciph) (link ciph) n iv s t h ∙ sym (encrypted-chain ciph n iv s)

pub decrypted-front : (inv : List ℕ → List ℕ) (n : ℕ) (iv s t : List ℕ) → 16 * n ≤ length s → decrypted inv iv n (s ++ t) ≡ decrypted inv iv n s
decrypted-front inv n iv s t h = decrypted-chain inv n iv (s ++ t) ∙ chain-front (unlink inv) taken n iv s t h ∙ sym (decrypted-chain inv n iv s)

-- a cipher and its inverse, under one key: both take blocks to blocks, and each undoes the other
pub record BlockCipher (ciph inv : List ℕ → List ℕ) : Type 0 where
  pub ciph-block : (s : List ℕ) → Block s → Block (ciph s)
  pub inv-block : (s : List ℕ) → Block s → Block (inv s)
  pub inv-ciph : (s : List ℕ) → Block s → inv (ciph s) ≡ s
  pub ciph-inv : (s : List ℕ) → Block s → ciph (inv s) ≡ s

module _ (ciph inv : List ℕ → List ℕ) (k : BlockCipher ciph inv) where
  link-block : (c p : List ℕ) → Bytes c → Block p → Block (link ciph c p)
  link-block c p hc b = k.ciph-block (p ⊕ c) (xor_block p c b.byte hc)

  link-bytes : (c p : List ℕ) → Bytes c → Block p → Bytes (link ciph c p)
  link-bytes c p hc b = (link-block c p hc b).byte

  unlink-block : (c x : List ℕ) → Bytes c → Block x → Block (unlink inv c x)
  unlink-block c x hc b = xor_block (inv x) c (k.inv-block x b).byte hc

  taken-bytes : (c x : List ℕ) → Bytes c → Block x → Bytes (taken c x)
  taken-bytes c x hc b = b.byte

  link-undone : (c p : List ℕ) → Bytes c → Block p → unlink inv c (link ciph c p) ≡ p
  link-undone c p hc b = ap (λ (x : List ℕ). x ⊕ c) (k.inv-ciph (p ⊕ c) (xor_block p c b.byte hc)) ∙ xor-twice p c b.long

  unlink-undone : (c x : List ℕ) → Bytes c → Block x → link ciph c (unlink inv c x) ≡ x
  unlink-undone c x hc b = ap ciph (xor-twice (inv x) c (k.inv-block x b).long) ∙ k.ciph-inv x b

  module _ (iv s : List ℕ) (hi : Bytes iv) (hs : Bytes s) where
    pub length-encrypted_whole : length (encrypted_whole ciph iv s) ≡ length s
    length-encrypted_whole = ap length (encrypted-whole ciph iv s) ∙ length_whole (link ciph) (link ciph) link-block link-bytes iv s hi hs

    pub length-decrypted_whole : length (decrypted_whole inv iv s) ≡ length s
    length-decrypted_whole = ap length (decrypted-whole inv iv s) ∙ length_whole (unlink inv) taken unlink-block taken-bytes iv s hi hs

    pub encrypted_whole-bytes : Bytes (encrypted_whole ciph iv s)
    encrypted_whole-bytes = rw (encrypted-whole ciph iv s) (whole-bytes (link ciph) (link ciph) link-block link-bytes iv s hi hs)

    pub decrypted_whole-bytes : Bytes (decrypted_whole inv iv s)
    decrypted_whole-bytes = rw (decrypted-whole inv iv s) (whole-bytes (unlink inv) taken unlink-block taken-bytes iv s hi hs)

    pub decrypted_whole-encrypted_whole : decrypted_whole inv iv (encrypted_whole ciph iv s) ≡ s
    decrypted_whole-encrypted_whole =
        ap (decrypted_whole inv iv) (encrypted-whole ciph iv s)
        ∙ decrypted-whole inv iv (whole (link ciph) (link ciph) iv s)
        ∙ whole-undone (link ciph) (link ciph) link-block link-bytes (unlink inv) taken link-undone (λ c p hc b. refl) iv s hi hs

    pub encrypted_whole-decrypted_whole : encrypted_whole ciph iv (decrypted_whole inv iv s) ≡ s
    encrypted_whole-decrypted_whole =
        ap (encrypted_whole ciph iv) (decrypted-whole inv iv s)
        ∙ encrypted-whole ciph iv (whole (unlink inv) taken iv s)
        ∙ whole-undone (unlink inv) taken unlink-block taken-bytes (link ciph) (link ciph) unlink-undone unlink-undone iv s hi hs

    -- the n blocks that s begins with
    module _ (n : ℕ) (h : 16 * n ≤ length s) where
      pub encrypted-bytes : Bytes (encrypted ciph iv n s)
      encrypted-bytes = rw (encrypted-chain ciph n iv s) (chain-bytes (link ciph) (link ciph) link-block link-bytes n iv s hi hs h)

      pub decrypted-bytes : Bytes (decrypted inv iv n s)
      decrypted-bytes = rw (decrypted-chain inv n iv s) (chain-bytes (unlink inv) taken unlink-block taken-bytes n iv s hi hs h)

    -- each way undoes the other
    module _ (n : ℕ) (e : length s ≡ 16 * n) where
      pub decrypted-encrypted : decrypted inv iv n (encrypted ciph iv n s) ≡ s
      decrypted-encrypted =
          ap (decrypted inv iv n) (encrypted-chain ciph n iv s)
          ∙ decrypted-chain inv n iv (chain (link ciph) (link ciph) iv n s)
          ∙ chain-undone (link ciph) (link ciph) link-block link-bytes (unlink inv) taken link-undone (λ c p hc b. refl) n iv s hi hs e

      pub encrypted-decrypted : encrypted ciph iv n (decrypted inv iv n s) ≡ s
      encrypted-decrypted =
          ap (encrypted ciph iv n) (decrypted-chain inv n iv s)
          ∙ encrypted-chain ciph n iv (chain (unlink inv) taken iv n s)
          ∙ chain-undone (unlink inv) taken unlink-block taken-bytes (link ciph) (link ciph) unlink-undone unlink-undone n iv s hi hs e

-- as many steps of the one kind as blocks, and none of another
module _ (key : List ℕ) (ciph : List ℕ → List ℕ) where
  pub counted-enciphered : (n : ℕ) (iv s : List ℕ) → counted encipherment (enciphered key ciph iv n s) ≡ n
  unfolding enciphered
  counted-enciphered zero iv s = refl
  counted-enciphered (suc n) iv s = omega (arith, counted-enciphered n (ciph (part s 0 16 ⊕ iv)) (drop 16 s))

  pub other-enciphered : (k n : ℕ) (iv s : List ℕ) → (encipherment ≡ k → ⊥) → counted k (enciphered key ciph iv n s) ≡ 0
  unfolding enciphered
  other-enciphered k zero iv s h = refl
  other-enciphered k (suc n) iv s h = simp (ne_eqb encipherment k h, other-enciphered k n (ciph (part s 0 16 ⊕ iv)) (drop 16 s) h)

  pub counted-deciphered : (n : ℕ) (s : List ℕ) → counted decipherment (deciphered key ciph n s) ≡ n
  unfolding deciphered
  counted-deciphered zero s = refl
  counted-deciphered (suc n) s = omega (arith, counted-deciphered n (drop 16 s))

  pub other-deciphered : (k n : ℕ) (s : List ℕ) → (decipherment ≡ k → ⊥) → counted k (deciphered key ciph n s) ≡ 0
  unfolding deciphered
  other-deciphered k zero s h = refl
  other-deciphered k (suc n) s h = simp (ne_eqb decipherment k h, other-deciphered k n (drop 16 s) h)
