-- FIPS 180-4, section 6.2.2: SHA-256 hash computation. "Addition (+) is performed modulo 2^32."
use Rattle.std.specs.Prelude.{◌≡◌, refl, List, [], ◌∷◌, ◌++◌, ℕ, zero, suc, ◌+◌, length, get_or}
use Rattle.octets.specs.Lists.{table}
use Rattle.sha_words.specs.Words.{plus, word_bytes}
use Rattle.sha_words.specs.Functions.{ch, maj, upper_sigma0, upper_sigma1, sigma0, sigma1}
use Rattle.sha_block.specs.Constants.{constants}
use Rattle.sha_padding.specs.Parsing.{blocks, block_at, block_words}
use Rattle.sha_block.specs.Initial.{initial_hash}

-- Step 1: "Prepare the message schedule, {Wt}: Mt(i) for 0 ≤ t ≤ 15; σ1(Wt-2) + Wt-7 + σ0(Wt-15) + Wt-16 for 16 ≤ t ≤ 63". The word
-- at t = n + 16, from those before it
abbrev pub next_word : List ℕ → ℕ → ℕ
next_word w n = plus (plus (plus (sigma1 (get_or w (n + 14) 0)) (get_or w (n + 9) 0)) (sigma0 (get_or w (n + 1) 0))) (get_or w n 0)

-- the first n + 16 words of the schedule that starts with the sixteen words of m
unfoldable pub schedule : List ℕ → ℕ → List ℕ
schedule m zero = m
schedule m (suc n) = schedule m n ++ (next_word (schedule m n) n ∷ [])

-- Step 3: "T1 = h + Σ1(e) + Ch(e, f, g) + Kt + Wt"
abbrev pub t1 : ℕ → ℕ → ℕ → ℕ → ℕ → ℕ → ℕ
t1 e f g h k w = plus (plus (plus (plus h (upper_sigma1 e)) (ch e f g)) k) w

-- "T2 = Σ0(a) + Maj(a, b, c)"
abbrev pub t2 : ℕ → ℕ → ℕ → ℕ
t2 a b c = plus (upper_sigma0 a) (maj a b c)

-- "h = g, g = f, f = e, e = d + T1, d = c, c = b, b = a, a = T1 + T2": the list v has a to h in this order
unfoldable pub turn : List ℕ → ℕ → ℕ → List ℕ
turn v k w =
    plus (t1 (get_or v 4 0) (get_or v 5 0) (get_or v 6 0) (get_or v 7 0) k w) (t2 (get_or v 0 0) (get_or v 1 0) (get_or v 2 0)) ∷
    get_or v 0 0 ∷
    get_or v 1 0 ∷
    get_or v 2 0 ∷
    plus (get_or v 3 0) (t1 (get_or v 4 0) (get_or v 5 0) (get_or v 6 0) (get_or v 7 0) k w) ∷
    get_or v 4 0 ∷
    get_or v 5 0 ∷
    get_or v 6 0 ∷ []

-- Steps 2 and 3: "Initialize the eight working variables, a to h, with the (i-1)st hash value"; "For t = 0 to 63". The variables before
-- turn t
unfoldable pub turns : List ℕ → List ℕ → ℕ → List ℕ
turns w h zero = h
turns w h (suc t) = turn (turns w h t) (get_or constants t 0) (get_or w t 0)

-- Step 4: "Compute the ith intermediate hash value H(i): H0(i) = a + H0(i-1), .., H7(i) = h + H7(i-1)", of the variables v
abbrev pub sums : List ℕ → List ℕ → List ℕ
sums h v = table (λ j. plus (get_or v j 0) (get_or h j 0)) 8 0

-- Steps 1 to 4: H(i) from H(i-1) and the block b, given as bytes
unfoldable pub compressed : List ℕ → List ℕ → List ℕ
compressed h b = sums h (turns (schedule (block_words b) 48) h 64)

-- "For i = 1 to N": the hash value after i blocks of the message m, from H(0)
unfoldable pub state_after : List ℕ → ℕ → List ℕ
state_after m zero = initial_hash
state_after m (suc i) = compressed (state_after m i) (block_at m i)

-- "the resulting 256-bit message digest of the message, M, is H0(N) || H1(N) || .. || H7(N)": the bytes of the hash value h
unfoldable pub digest_bytes : List ℕ → List ℕ
digest_bytes h =
    word_bytes (get_or h 0 0) ++ word_bytes (get_or h 1 0) ++ word_bytes (get_or h 2 0) ++ word_bytes (get_or h 3 0) ++
    word_bytes (get_or h 4 0) ++ word_bytes (get_or h 5 0) ++ word_bytes (get_or h 6 0) ++ word_bytes (get_or h 7 0)

-- "After repeating steps one through four a total of N times (i.e., after processing M(N))"
unfoldable pub sha256 : List ℕ → List ℕ
sha256 m = digest_bytes (state_after m (blocks m))

-- 256 bits
pub length-sha256 : (m : List ℕ) → length (sha256 m) ≡ 32
unfolding sha256 digest_bytes
length-sha256 m = refl
