-- A card in an open session accepts Seal's command where both have the same FAKey, DivData and RND1 and the card holds the mode. Assumes nothing.
use Rattle.std.specs.Prelude.{◌≡◌, Bool, true, length}
use Rattle.std.proofs.Math.Path.{sym, ap}
use Rattle.std.proofs.Common.{◌∙◌, arith, eq-eqb, lt-ltb, le-leb}
use mathlib.Core.List.{List}
use Prim.Native.Nat.{ℕ, ◌+◌, ◌-◌, ◌*◌, ◌%◌, ◌<◌, ◌≤◌}
use Rattle.octets.specs.Lists.{part}
use Rattle.octets.specs.Same.{same_of}
use Rattle.padding.specs.Method2.{padded, end, rightly}
use Rattle.padding.specs.Laws.{seen, unpadded-padded, rightly-seen}
use Rattle.plaid_types.specs.declared.OpModeId.{OpModeId}
use Rattle.plaid_types.specs.declared.Card.{Card}
use Rattle.final_command.specs.Final.{card_keys_hash, first_mode, mode_of, deciphered_text, accepting, accepts_final}
use Rattle.reader_seal.specs.Seal.{keys_hash_of}
use Rattle.reader_seal.specs.Laws.{length-card_keys_hash}
use Rattle.session_final.specs.SealFrame.{seal-data-whole}
use Rattle.session_final.specs.Buffer.{padded-hash}
use Rattle.session_final.specs.SealText.{SharedSession, one, sealed, sealed_text, length-sealed_text, seal-deciphered, seal-mode, seal-card_keys_hash}

-- so is a padded text, and it ends where the text does
rightly-padded : (s : List ℕ) → rightly (padded s) ≡ true
rightly-padded s = rightly-seen (padded s) (length s) (seen (padded s) (length s) (unpadded-padded s))

end-padded : (s : List ℕ) → end (padded s) - 1 ≡ length s
end-padded s = let k = seen (padded s) (length s) (unpadded-padded s) in omega (arith, k.ends)

-- the six conditions
accepting-is : (l : ℕ) (opened : Bool) (lc : ℕ) (s hash : List ℕ) (mode : ℕ) → opened ≡ true → lc % 16 ≡ 0 → rightly s ≡ true → 2 + 2 * l ≤ end s - 1 →
    part s (end s - 1 - l) l ≡ hash → mode < 16 → accepting l opened lc s hash mode ≡ true
unfolding accepting
accepting-is l opened lc s hash mode a b c d e f =
    simp (a, eq-eqb (lc % 16) 0 b, c, le-leb (2 + 2 * l) (end s - 1) d, same_of (part s (end s - 1 - l) l) hash e, lt-ltb mode 16 f)

module _ (l : ℕ) (c : Card) (fa r1 r2 : List ℕ) (mode : OpModeId) (payload : List ℕ) (k : SharedSession l c fa r1 r2 mode payload) where
  -- the deciphered text is rightly padded
  pub seal-rightly : rightly (deciphered_text c (sealed l c fa r1 r2 mode payload)) ≡ true
  seal-rightly = ap rightly (seal-deciphered l c fa r1 r2 mode payload k) ∙ rightly-padded (sealed_text l r1 r2 mode payload)

  -- unpadded, it has 2 + 2L bytes and the payload's
  pub seal-end : end (deciphered_text c (sealed l c fa r1 r2 mode payload)) - 1 ≡ 2 + 2 * l + length payload
  seal-end =
      ap (λ (s : List ℕ). end s - 1) (seal-deciphered l c fa r1 r2 mode payload k)
      ∙ end-padded (sealed_text l r1 r2 mode payload)
      ∙ length-sealed_text l c fa r1 r2 mode payload k

  -- and its last L bytes are KeysHash
  pub seal-last : part (deciphered_text c (sealed l c fa r1 r2 mode payload)) (end (deciphered_text c (sealed l c fa r1 r2 mode payload)) - 1 - l) l ≡ keys_hash_of l r1 r2
  seal-last =
      ap (λ (n : ℕ). part (deciphered_text c (sealed l c fa r1 r2 mode payload)) (n - l) l) seal-end
      ∙ ap (λ (s : List ℕ). part s (2 + 2 * l + length payload - l) l) (seal-deciphered l c fa r1 r2 mode payload k)
      ∙ padded-hash mode r2 payload (keys_hash_of l r1 r2) (2 + 2 * l + length payload - l) l (omega (arith, k.rnd2-long)) (length-card_keys_hash l r1 r2 (one l c fa r1 r2 mode payload k))

  -- the slot found is the first that holds Seal's mode
  pub seal-slot : mode_of c (sealed l c fa r1 r2 mode payload) ≡ first_mode 0 mode c.modes
  unfolding mode_of
  seal-slot = ap (λ (v : OpModeId). first_mode 0 v c.modes) (seal-mode l c fa r1 r2 mode payload k)

  -- where a slot holds Seal's mode, the card accepts
  pub seal-accepted : first_mode 0 mode c.modes < 16 → accepts_final c (sealed l c fa r1 r2 mode payload) ≡ true
  unfolding accepts_final
  seal-accepted h =
      let d : List ℕ = sealed l c fa r1 r2 mode payload in
      ap (λ (n : ℕ). accepting n c.session.opened (length d) (deciphered_text c d) (card_keys_hash c d) (mode_of c d)) k.same_length
      ∙ accepting-is l c.session.opened (length d) (deciphered_text c d) (card_keys_hash c d) (mode_of c d) k.in-session
      (seal-data-whole l fa c.div_data r1 r2 mode payload) seal-rightly (omega (arith, seal-end))
      (seal-last ∙ sym (seal-card_keys_hash l c fa r1 r2 mode payload k)) (omega (arith, seal-slot))
