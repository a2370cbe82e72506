-- `as_slice` meets its contract; written out, so that a wrong part is shown beside the right one. Assumes nothing.
use Rattle.printing.proofs.Text.as_slice.Goals as goal

pub returns : goal.returns
returns g c = c.self.view_is
