-- The encoding of a list of KeySetIDs: SEQUENCE OF OCTET STRING of size 2 (document 01, "Initial"), in the forms of BER that T-02 takes, in the words of
-- ITU-T X.690. An octet is a byte.
use Rattle.std.specs.Prelude.{◌≡◌, List, [], ◌∷◌, ◌++◌, ℕ, ◌+◌, ◌*◌, ◌/◌, ◌%◌, ◌<◌, length}
use Rattle.list.specs.Ber.{unsigned}

-- 8.1.3.3, the definite form: "the length octets .. shall represent the number of octets in the contents octets using either the short form or the
-- long form". The bytes b are the length v, and behind it r
pub data IsLength (v : ℕ) (r : List ℕ) : List ℕ → Type 0 where
  -- 8.1.3.4: "a single octet in which bit 8 is zero and bits 7 to 1 encode the number of octets in the contents octets"
  short : v < 0x80 → IsLength v r (v ∷ r)
  -- 8.1.3.5: "an initial octet and one or more subsequent octets": bit 8 is one, "bits 7 to 1 shall encode the number of subsequent octets", "the value
  -- 11111111 shall not be used"; the subsequent octets s are "an unsigned binary integer equal to the number of octets in the contents octets"
  long : (s : List ℕ) → 0 < length s → 0x80 + length s < 0xFF → unsigned s ≡ v → IsLength v r ((0x80 + length s) ∷ (s ++ r))

-- "entries of tag 04, length 2, KeySetID": the bytes b are the entries of the KeySetIDs ids, and nothing else. 8.1.3.2: "use the definite form if the
-- encoding is primitive"
pub data AreEntries : List ℕ → List ℕ → Type 0 where
  none : AreEntries [] []
  more : {k high low : ℕ} {ids r b : List ℕ} → k ≡ high * 256 + low → IsLength 2 (high ∷ low ∷ r) b → AreEntries ids r → AreEntries (k ∷ ids) (4 ∷ b)

-- "tag 30, length" and the entries: the data d encode the KeySetIDs ids. 8.1.3.2: "use either the definite form or the indefinite form .. if the encoding
-- is constructed"
pub data Encodes (ids : List ℕ) : List ℕ → Type 0 where
  definite : {r b : List ℕ} → IsLength (length r) r b → AreEntries ids r → Encodes ids (0x30 ∷ b)
  -- 8.1.3.6: "bit 8 set to one, and bits 7 to 1 set to zero"; 8.1.5: "The end-of-contents octets shall consist of two zero octets"
  indefinite : {r : List ℕ} → AreEntries ids r → Encodes ids (0x30 ∷ 0x80 ∷ (r ++ (0 ∷ 0 ∷ [])))

-- the encoding with all lengths in the short form
unfoldable pub short_entries : List ℕ → List ℕ
short_entries [] = []
short_entries (k ∷ ids) = 0x04 ∷ 0x02 ∷ k / 256 ∷ k % 256 ∷ short_entries ids

unfoldable pub encoded : List ℕ → List ℕ
encoded ids = 0x30 ∷ 4 * length ids ∷ short_entries ids
