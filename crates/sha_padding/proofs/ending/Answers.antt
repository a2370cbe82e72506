-- `sha_padding::ending` meets its contract: the block that the message ends in is the last, if eight bytes are free
-- after 0x80, and else the last but one. Assumes nothing.
use Rattle.std.proofs.Common.{◌≡◌, List, ℕ, ◌+◌, ◌*◌, ◌/◌, ◌%◌, length, get_or, take, drop, set, replicate, arith}
use Rattle.octets.specs.Filled.{Filled}
use Rattle.sha_padding.specs.PaddingLaws.{blocks-count}
use Rattle.sha_padding.proofs.Blocks.{Begun, begun, marked, block-open, block_last}
use Rattle.sha_padding.proofs.ending.Goals as goal

-- the block with 0x80, of what `front` gave
ended : (m : List ℕ) (at n : ℕ) {b : List ℕ} → at ≡ 64 * (length m / 64) → n ≡ length m % 64 →
    Filled (λ j. get_or (take n (drop at m)) j 0) (replicate 64 0) b (length (take n (drop at m))) →
    Begun m (length m / 64) (set b (length m % 64) 0x80) (length m % 64 + 1)
ended m at n e f q =
    let i : ℕ = length m / 64 in
    let k : ℕ = length m % 64 in
    marked m i k _ (omega arith) (omega arith) (begun m i k at n e f (omega arith) q)

pub returns-then-rest-lt64 : goal.returns-then-rest-lt64
returns-then-rest-lt64 c =
    let m = c.args.m.now in
    let i : ℕ = length m / 64 in
    let begun = ended m _ _ (omega arith) (omega arith) c.front-b.ensures in
    block_last m i (length m % 64 + 1) (omega arith) (omega (arith, blocks-count m)) begun c.put_length.ensures

pub returns : goal.returns
returns c =
    let m = c.args.m.now in
    let begun = ended m _ _ (omega arith) (omega arith) c.front-b.ensures in
    block-open m (length m / 64) (length m % 64 + 1) _ (omega arith) (omega (arith, blocks-count m)) begun
