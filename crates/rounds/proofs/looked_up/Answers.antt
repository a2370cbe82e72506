-- `rounds::looked_up` meets its contract: each index is the byte that its definition has. Assumes nothing.
use mathlib.Core.Path.{◌≡◌}
use Rattle.std.proofs.Common.{rules}
use Rattle.column.specs.Word.{byte_at}
use Rattle.rounds.proofs.looked_up.Goals as goal

pub returns : goal.returns
returns c =
    let a : c.from.result ≡ byte_at c.args.a 0 = search rules in
    let b : c.from-2.result ≡ byte_at c.args.b 1 = search rules in
    let e : c.from-3.result ≡ byte_at c.args.c 2 = search rules in
    let d : c.from-4.result ≡ byte_at c.args.d 3 = search rules in
    cc
