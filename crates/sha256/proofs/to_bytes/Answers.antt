-- `sha256::to_bytes` meets its contract: each turn of the loop copies the bytes of one word more. Assumes nothing.
use Rattle.std.proofs.Common.{◌≡◌, sym, ap, ap₂, ◌∙◌, List, ◌++◌, ℕ, ◌+◌, ◌*◌, ◌<◌, add-one, length, get_or, take, arith}
use Rattle.std.proofs.Math.Seq.{take_all}
use Rattle.std.proofs.lemmas.Slice.{take-put_mid}
use borrow.Rule.Slice.PartMut.{put_mid, same_len_mid}
use Rattle.sha_words.specs.Words.{word_bytes}
use Rattle.sha_block.specs.Hash.{digest_bytes}
use Rattle.sha256.proofs.to_bytes.Invariants.{words}
use Rattle.sha256.proofs.to_bytes.Goals as goal

-- the bytes of one word more
more : (h d s : List ℕ) (i k : ℕ) → length d ≡ 32 → i < 8 → take (4 * i) d ≡ words h i → s ≡ word_bytes (get_or h i 0)
    → take (4 * (i + 1)) (put_mid (4 * i) k d s) ≡ words h (i + 1)
more h d s i k l b p q =
    take-put_mid (4 * i) k d s (4 * (i + 1)) (omega (arith, ap length q)) (omega arith)
    ∙ ap₂ ◌++◌ p q
    ∙ ap (words h) (sym (add-one i))

pub loop-i-preserved : goal.loop-i-preserved
loop-i-preserved c =
    let l = c.loop-i in
    let s = c.copy_from_slice.ensures.after ∙ c.to_be_bytes.ensures in
    let long = same_len_mid _ _ _ _ c.copy_from_slice.ensures.len ∙ l.invariant.0 in
    (long, more c.args.h l.d _ l.i _ l.invariant.0 c.loop-i-test.true l.invariant.1 s)

pub returns : goal.returns
unfolding digest_bytes
returns c =
    let l = c.loop-i in
    let e : l.i ≡ 8 = omega arith in
    sym (take_all 32 l.d (omega arith)) ∙ (rw e at l.invariant.1)
