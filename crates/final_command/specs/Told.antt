-- Document 01, "Counts": what is told of a reply, each from its list of steps or its bytes; and, for T-06 of document 02, whether it was accepted.
use Rattle.std.specs.Prelude.{Bool, length}
use Rattle.work.specs.Steps.{comparison, decipherment, encipherment, expansion, hash_block, counted, work_sum}
use Rattle.plaid_types.specs.Cards.{Reply}
use Rattle.final_command.specs.declared.Final.{Final}

abbrev pub told_final : Bool → Reply → Final
told_final ok rep =
    record {
      comparisons = counted comparison rep.steps;
      decipherments = counted decipherment rep.steps;
      encipherments = counted encipherment rep.steps;
      expansions = counted expansion rep.steps;
      hash_blocks = counted hash_block rep.steps;
      length = length rep.bytes;
      sum = work_sum rep.steps;
      accepted = ok;
    }
