-- `key_expansion::rot_sub` meets its contract: each index is the byte that its definition has. Assumes nothing.
use mathlib.Core.Path.{◌≡◌}
use Rattle.std.proofs.Common.{rules}
use Rattle.column.specs.Word.{byte_at}
use Rattle.key_expansion.proofs.rot_sub.Goals as goal

pub returns : goal.returns
returns c =
    let w = c.args.w in
    let b1 : c.from.result ≡ byte_at w 1 = search rules in
    let b2 : c.from-2.result ≡ byte_at w 2 = search rules in
    let b3 : c.from-3.result ≡ byte_at w 3 = search rules in
    let b0 : c.from-4.result ≡ byte_at w 0 = search rules in
    cc
