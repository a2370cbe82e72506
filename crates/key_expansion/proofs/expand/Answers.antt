-- `key_expansion::expand` meets its contract: a key of four words, or a longer one. Assumes nothing.
use mathlib.Core.Path.{sym, ap, ◌∙◌}
use Prim.Native.Nat.{ℕ, ◌/◌}
use lib.ListN.{length, take}
use lib.Seq.{take-length}
use Rattle.octets.specs.Lists.{part}
use Rattle.key_expansion.specs.KeyLength.{longer}
use Rattle.key_expansion.specs.Schedule.{fifteen}
use Rattle.key_expansion.proofs.expand.Goals as goal

pub returns-then-key-eq16 : goal.returns-then-key-eq16
unfolding part
returns-then-key-eq16 c =
    let key = c.args.key.now in
    let l = c.if-key-eq16.true in
    c.short_rows.ensures
    ∙ ap (fifteen 4) (c.block_at.ensures ∙ ap (λ (n : ℕ). take n key) (sym l) ∙ take-length key)
    ∙ ap (λ (n : ℕ). fifteen (n / 4) key) (sym l)

pub long_rows-requires : goal.long_rows-requires
long_rows-requires c = longer (length c.args.key.now) c.requires c.if-key-eq16.false
