-- `reader_accept::judged` meets its contract: `judged-text` and `judged-malformed` take the two answers of unpadding to `authenticated`. Assumes nothing.
use mathlib.Core.Path.{sym, ◌∙◌}
use native.Mathlib.Omega.{arith}
use Rattle.padding.specs.Laws.{unpadded-lt}
use Rattle.reader_accept.proofs.Tests.{judged-text, judged-malformed}
use Rattle.reader_accept.proofs.judged.Goals as goal

pub body_length-requires : goal.body_length-requires
body_length-requires c = omega (arith, unpadded-lt _ _ (sym c.in_ok-t.ensures))

pub returns : goal.returns
returns c = c.body_length.ensures ∙ judged-text _ _ _ c.in_ok-t.ensures

pub returns-in_err-t : goal.returns-in_err-t
returns-in_err-t c = let k = c.in_err-t.ensures in c.from_residual.ensures ∙ judged-malformed _ _ k
