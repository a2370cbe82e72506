-- `key_expansion::next_four` meets its contract, word by word. Assumes nothing.
use mathlib.Core.Path.{ap, ◌∙◌}
use Prim.Native.Nat.{ℕ, ◌^◌, ◌<◌}
use lib.Bits.{bit_xor, xor_lt}
use Rattle.rounds.specs.Meaning.{Words}
use Rattle.key_expansion.specs.KeyExpansion.{xor_word}
use Rattle.key_expansion.specs.Schedule.{bytes_in, temp_at}
use Rattle.key_expansion.specs.WordLaws.{bytes-xor}
use Rattle.std.proofs.Common.{rules}
use Rattle.key_expansion.proofs.next_four.Goals as goal

pub returns : goal.returns
returns c =
    let f = c.args.from in
    let t = c.temp in
    let u = c.temp-2 in
    let h : Words f = search rules in
    let ht : t.result < 2 ^ 32 = search rules in
    let hu : u.result < 2 ^ 32 = search rules in
    record {
      first = bytes-xor f.c0 t.result h.w0 ht ∙ ap (xor_word (bytes_in f.c0)) t.ensures;
      second = bytes-xor f.c1 (bit_xor f.c0 t.result) h.w1 (xor_lt 32 f.c0 t.result h.w0 ht);
      third = bytes-xor f.c2 u.result h.w2 hu ∙ ap (xor_word (bytes_in f.c2)) (u.ensures ∙ ap (λ (j : ℕ). temp_at c.args.nk j c.args.x (bytes_in (bit_xor f.c1 (bit_xor f.c0 t.result)))) c.place.ensures);
      fourth = bytes-xor f.c3 (bit_xor f.c2 u.result) h.w3 (xor_lt 32 f.c2 u.result h.w2 hu);
    }
