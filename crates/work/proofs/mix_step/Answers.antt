-- `mix_step` meets its contract: the sum of the parts one after the other is that of the whole. Assumes nothing.
use Rattle.work.specs.Laws.{mixed-step}
use Rattle.work.proofs.mix_step.Goals as goal

pub returns : goal.returns
returns c =
    let a = c.args in
    mixed-step a.s (record { kind = a.kind; key = a.key.now; input = a.input.now; output = a.output.now }) c.mix-after_kind.ensures c.mix_all-after_key.ensures c.mix_all-after_input.ensures c.mix_all.ensures
