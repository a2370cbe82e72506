-- `list::ended` meets its contract: each form is one case of `ended`. Assumes nothing.
use Rattle.list.specs.Ber.{ended}
use Rattle.list.proofs.ended.Goals as goal

pub returns-in-Definite : goal.returns-in-Definite
unfolding ended
returns-in-Definite c = simp c.in-Definite.is
