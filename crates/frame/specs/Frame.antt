-- Document 01, "Frame" and, of "When an operation declines", the faults of a frame.
use Rattle.std.specs.Prelude.{Bool, cond, ◌&&◌, ◌||◌, List, ◌++◌, ℕ, ◌+◌, ◌-◌, eqb, ltb, length, get_or}
use Rattle.octets.specs.Lists.{part}

-- "In demand 3 "frame" means the first five bytes and the last one, or every byte where there are fewer than six; "length" is the total."
unfoldable pub frame_of : List ℕ → List ℕ
frame_of c = cond (ltb (length c) 6) c (part c 0 5 ++ part c (length c - 1) 1)

-- "INS 87 (initial) or 86 (final)"
abbrev pub initial_ins : ℕ
initial_ins = 0x87

abbrev pub final_ins : ℕ
final_ins = 0x86

abbrev pub known_ins : ℕ → Bool
known_ins i = eqb i initial_ins || eqb i final_ins

-- the bytes of a frame; a byte that is not there counts as 0
abbrev pub cla_of : List ℕ → ℕ
cla_of f = get_or f 0 0

abbrev pub ins_of : List ℕ → ℕ
ins_of f = get_or f 1 0

abbrev pub p1_of : List ℕ → ℕ
p1_of f = get_or f 2 0

abbrev pub p2_of : List ℕ → ℕ
p2_of f = get_or f 3 0

abbrev pub lc_of : List ℕ → ℕ
lc_of f = get_or f 4 0

abbrev pub le_of : List ℕ → ℕ
le_of f = get_or f 5 0

-- "Lc from 1 to 255, Lc data bytes, Le 00; total Lc + 6", of a frame f and a total of n
unfoldable pub whole : ℕ → List ℕ → Bool
whole n f = ltb 0 (lc_of f) && (eqb n (lc_of f + 6) && eqb (le_of f) 0)

-- "under four bytes 6700; CLA 6E00; INS 6D00; P1 P2 6A86; any other fault of the frame 6700", the first that applies; 9000 where none does
unfoldable pub status_of : ℕ → List ℕ → ℕ
status_of n f =
    cond (ltb n 4) 0x6700
    (cond (eqb (cla_of f) 0)
    (cond (known_ins (ins_of f))
    (cond (eqb (p1_of f) 0 && eqb (p2_of f) 0)
    (cond (whole n f) 0x9000 0x6700)
    0x6A86)
    0x6D00)
    0x6E00)

-- the Lc data bytes of a command whose frame is whole
unfoldable pub data_of : List ℕ → List ℕ
data_of c = part c 5 (length c - 6)
