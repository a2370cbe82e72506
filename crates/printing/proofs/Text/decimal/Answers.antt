-- `decimal` meets its contract. Assumes nothing.
use Rattle.std.proofs.Common.{◌≤◌, ◌∙◌, sym, arith, rules}
use Rattle.printing.specs.Laws.{few-digits, decimal-digits, length-then, then_as}
use Rattle.printing.proofs.Text.decimal.Goals as goal

pub put-requires : goal.put-requires
put-requires g c =
    let made = c.decimal-k in
    omega (arith, few-digits c.args.n made.result (search rules) made.ensures.len, made.ensures.in_bounds)

pub returns : goal.returns
returns g c =
    let made = c.decimal-k in
    let few : made.result ≤ 20 = few-digits c.args.n made.result (search rules) made.ensures.len in
    record {
      written = then_as c.args.self.now (made.ensures.digits ∙ sym (decimal-digits 20 made.result c.args.n few made.ensures.len)) c.put.ensures;
      upper_bound = omega (arith, length-then c.args.self.now _ c.put.ensures, made.ensures.in_bounds);
    }
