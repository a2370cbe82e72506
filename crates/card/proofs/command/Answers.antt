-- `card::command` meets its contract: the card with the session that `tell` tells, and the tries counted on, is the outcome's. Assumes nothing.
use lib.ListN.{length}
use Rattle.card.specs.Ways.{by-told}
use Rattle.card.proofs.command.Goals as goal

pub returns : goal.returns
returns c =
    let a = c.args in
    record {
      told = by-told a.card a.interface a.cmd.now a.fresh.now (length a.out.now) c.tell-t.result _ _ c.tell-t.ensures.value c.after-tries.ensures c.with_state-next.ensures;
      bytes = c.tell-t.ensures.out_after;
    }
