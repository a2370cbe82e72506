-- The blocks of the padded message as the code makes them: bytes of the message, the byte 0x80, zeros, and the length
-- in bits written over the last eight bytes. Assumes nothing.
use Rattle.std.specs.Int.{to_be_bytes}
use Rattle.std.proofs.Common.{◌≡◌, refl, sym, ap, ◌∙◌, List, [], ◌∷◌, ◌++◌, ⊎_elim, ℕ, zero, suc, ◌+◌, ◌-◌, ◌*◌, ◌/◌, ◌%◌, ◌^◌, ◌<◌, ◌≤◌, w64, add-one, arith, length, get_or, take, drop, set, replicate, length-append, length-drop, length-take-le, get_or-take, get_or-drop}
use Rattle.std.proofs.Math.ListN.{get_or-append}
use Rattle.std.proofs.Math.Nat.{eq-zero-or-pos}
use lib.Seq.{paste, paste-suc}
use Rattle.std.proofs.lemmas.List.{get_or-replicate}
use Rattle.octets.specs.Lists.{table, table-ext, tabled, over, length_over}
use Rattle.octets.specs.Filled.{Filled, filled_more, filled-all}
use Rattle.octets.specs.Writes.{over-front}
use Rattle.sha_padding.specs.Padding.{be64, pad}
use Rattle.sha_padding.specs.Parsing.{blocks, block_at}
use Rattle.sha_padding.specs.PaddingLaws.{length-pad, length-blocks, pad-in, pad-one, pad-zero, pad-length, pad-past, past}

-- byte j of the eight of a length of l bits
abbrev bits : ℕ → ℕ → ℕ
bits l j = l / 2 ^ (56 - 8 * j) % 256

-- the code keeps 64 digits of the length in bits
kept : (n j : ℕ) → j < 8 → bits (n * 8 % 2 ^ 64) j ≡ bits (8 * n) j
kept n zero h = omega arith
kept n (suc zero) h = omega arith
kept n (suc (suc zero)) h = omega arith
kept n (suc (suc (suc zero))) h = omega arith
kept n (suc (suc (suc (suc zero)))) h = omega arith
kept n (suc (suc (suc (suc (suc zero))))) h = omega arith
kept n (suc (suc (suc (suc (suc (suc zero)))))) h = omega arith
kept n (suc (suc (suc (suc (suc (suc (suc zero))))))) h = omega arith
kept n (suc (suc (suc (suc (suc (suc (suc (suc j)))))))) h = omega arith

pub length-bytes : (n : ℕ) → to_be_bytes w64 (n * 8 % 2 ^ 64) ≡ be64 (8 * n)
length-bytes n =
    ap (λ x. table (bits (n * 8 % 2 ^ 64)) 7 0 ++ (x ∷ [])) last
    ∙ table-ext (bits (n * 8 % 2 ^ 64)) (bits (8 * n)) 8 0 (λ j _ h. kept n j (omega arith))
  where
    last : n * 8 % 2 ^ 64 % 256 ≡ bits (n * 8 % 2 ^ 64) 7
    last = omega arith

-- and writes its eight bytes over the last of a block, one a turn, each at its place
pub length-turn : (b s : List ℕ) (i at : ℕ) {t : List ℕ} → at ≡ 56 + i → length b ≡ 64 → length s ≡ 8 → i < 8 →
    t ≡ paste b 56 s i → set t at (get_or s i 0) ≡ paste b 56 s (i + 1)
length-turn b s i at e f g h q = rw (e, q, add-one) (paste-suc b 56 s i 0 (omega arith) (omega arith))

pub length-put : (b : List ℕ) (n : ℕ) {s t : List ℕ} → s ≡ to_be_bytes w64 (n * 8 % 2 ^ 64) → t ≡ paste b 56 s 8 → t ≡ over b 56 (be64 (8 * n))
unfolding over
length-put b n e q = q ∙ ap (λ x. paste b 56 x 8) (e ∙ length-bytes n)

-- a byte of a list that s is written over: before s, and in it
over-before : (d s : List ℕ) (at j : ℕ) → at ≤ length d → j < at → get_or (over d at s) j 0 ≡ get_or d j 0
unfolding over
over-before d s at j h l =
    get_or-append (take at d ++ s) (drop (at + length s) d) 0 j (omega (arith, length-append (take at d) s, length-take-le at d h))
    ∙ get_or-append (take at d) s 0 j (omega (arith, length-take-le at d h))
    ∙ get_or-take at d j 0 l

over-in : (d s : List ℕ) (at i j : ℕ) → at ≤ length d → i ≡ at + j → j < length s → get_or (over d at s) i 0 ≡ get_or s j 0
unfolding over
over-in d s at i j h e l =
    get_or-append (take at d ++ s) (drop (at + length s) d) 0 i (omega (arith, length-append (take at d) s, length-take-le at d h))
    ∙ past (take at d) s i j (omega (arith, length-take-le at d h))

-- a list with s written over its first bytes
pub filled-front : (d s : List ℕ) → length s ≤ length d → Filled (λ j. get_or s j 0) d (over d 0 s) (length s)
filled-front d s h =
    record {
      long = length_over d 0 s (omega arith);
      done = λ j l. over-in d s 0 j j (omega arith) (omega arith) l;
      rest =
          λ j l.
          ap (λ x. get_or x j 0) (over-front d s)
          ∙ past s (drop (length s) d) j (j - length s) (omega arith)
          ∙ get_or-drop (length s) d (j - length s) 0
          ∙ ap (λ x. get_or d x 0) (omega arith);
    }

module _ (m : List ℕ) where
  -- byte j of block i, and a block whose first k bytes are so, with zeros after them
  abbrev byte : ℕ → ℕ → ℕ
  byte i j = get_or (pad m) (64 * i + j) 0

  abbrev pub Begun : ℕ → List ℕ → ℕ → Type 0
  Begun i b k = Filled (byte i) (replicate 64 0) b k

  -- k bytes of the message, lent as a part of it
  pub begun : (i k at n : ℕ) {b : List ℕ} → at ≡ 64 * i → n ≡ k → 64 * i + k ≤ length m →
      Filled (λ j. get_or (take n (drop at m)) j 0) (replicate 64 0) b (length (take n (drop at m))) → Begun i b k
  begun i k at n e f h q =
      let long : length (take n (drop at m)) ≡ k = length-take-le n (drop at m) (omega (arith, length-drop at m)) ∙ f in
      record {
        long = q.long;
        done =
            λ j l.
            q.done j (omega arith)
            ∙ get_or-take n (drop at m) j 0 (omega arith)
            ∙ get_or-drop at m j 0
            ∙ ap (λ x. get_or m (x + j) 0) e
            ∙ sym (pad-in m (64 * i + j) (omega arith));
        rest = λ j l. q.rest j (omega arith);
      }

  -- and the byte 0x80
  pub marked : (i k : ℕ) (b : List ℕ) → 64 * i + k ≡ length m → k < 64 → Begun i b k → Begun i (set b k 0x80) (k + 1)
  marked i k b e h q = filled_more q h (sym (pad-one m (64 * i + k) e))

  -- after that the zeros are right as far as those of the padding reach
  zeroed : (i k n : ℕ) (b : List ℕ) → length m < 64 * i + k → 64 * i + n + 8 ≤ length (pad m) → n ≤ 64 → Begun i b k →
      (j : ℕ) → j < n → get_or b j 0 ≡ byte i j
  zeroed i k n b h e g q j l =
      ⊎_elim
      (λ (p : k - j ≡ 0). q.rest j (omega arith) ∙ get_or-replicate 64 j 0 0 (omega arith) ∙ sym (pad-zero m (64 * i + j) (omega arith) (omega (arith, length-pad m))))
      (λ (p : 0 < k - j). q.done j (omega arith))
      (eq-zero-or-pos (k - j))

  -- a block of the message
  pub block_in : (i : ℕ) (b : List ℕ) → Begun i b 64 → b ≡ block_at m i
  unfolding block_at
  block_in i b q = filled-all 64 q refl (omega arith)

  whole : (i : ℕ) (b : List ℕ) → length b ≡ 64 → ((j : ℕ) → j < 64 → get_or b j 0 ≡ byte i j) → b ≡ block_at m i
  unfolding block_at
  whole i b e h = tabled (byte i) 64 0 b 0 (omega arith) (λ j l. h j (omega arith))

  -- a block with 0x80 that is not the last
  pub block-open : (i k : ℕ) (b : List ℕ) → length m < 64 * i + k → i + 1 < blocks m → Begun i b k → b ≡ block_at m i
  block-open i k b h e q = whole i b q.long (zeroed i k 64 b h (omega (arith, length-blocks m)) (omega arith) q)

  -- the last block, with the length
  pub block_last : (i k : ℕ) {b r : List ℕ} → length m < 64 * i + k → i + 1 ≡ blocks m → Begun i b k → r ≡ over b 56 (be64 (8 * length m)) → r ≡ block_at m i
  block_last i k {b} h e q f =
      let s : List ℕ = be64 (8 * length m) in
      let z : (j : ℕ) → j < 56 → get_or b j 0 ≡ byte i j = zeroed i k 56 b h (omega (arith, length-blocks m)) (omega arith) q in
      let g : length b ≡ 64 = q.long in
      f ∙ whole i (over b 56 s) (length_over b 56 s (omega arith) ∙ g)
      (λ j l.
      ⊎_elim
      (λ (p : 56 - j ≡ 0).
      over-in b s 56 j (j - 56) (omega arith) (omega arith) (omega arith)
      ∙ sym (pad-length m (64 * i + j) (j - 56) (omega (arith, length-pad m, length-blocks m))))
      (λ (p : 0 < 56 - j). over-before b s 56 j (omega arith) (omega arith) ∙ z j (omega arith))
      (eq-zero-or-pos (56 - j)))

  -- past the last
  pub block-past : (i : ℕ) → blocks m ≤ i → replicate 64 0 ≡ block_at m i
  block-past i h = whole i (replicate 64 0) refl (λ j l. get_or-replicate 64 j 0 0 l ∙ sym (pad-past m (64 * i + j) (omega (arith, length-blocks m))))
