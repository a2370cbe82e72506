-- What a call tells, with the session after it and whether it was a refused final command: all of its outcome but the rest of the card; after a
-- decline; and after an initial and after a final command, from what those tell of their reply. Assumes nothing.
use Rattle.std.specs.Prelude.{Bool, false, ◌&&◌, not, List, ℕ, eqb}
use Rattle.frame.specs.Declines.{Verdict}
use Rattle.plaid_types.specs.Keys.{key_length_of}
use Rattle.plaid_types.specs.Cards.{no_session}
use Rattle.plaid_types.specs.declared.Session.{Session}
use Rattle.plaid_types.specs.declared.Card.{Card}
use Rattle.plaid_types.specs.declared.Outcome.{Outcome}
use Rattle.initial.specs.declared.Initial.{Initial}
use Rattle.final_command.specs.declared.Final.{Final}
use Rattle.card.specs.Command.{refuses_final, declined, verdict_on}
use Rattle.card.specs.declared.Told.{Told}

-- whether a call is a refused final command: one that is neither declined nor accepted
unfoldable pub refused_try : Card → ℕ → List ℕ → List ℕ → ℕ → Bool
refused_try c i cmd fresh room = eqb (verdict_on i (key_length_of c) cmd fresh room).status 0x9000 && refuses_final c cmd

-- of an outcome: of its card only the session
abbrev pub told_of : Bool → Outcome → Told
told_of refused o = record { answer = o.answer; sum = o.sum; session = o.card.session; refused = refused }

-- no steps, and the session as it was
abbrev pub after_decline : Session → Verdict → Told
after_decline s v = record { answer = declined v; sum = 0; session = s; refused = false }

abbrev pub after_initial : Initial → Told
after_initial r =
    record {
      answer =
          record {
            number = 0;
            status = 0x9000;
            comparisons = r.comparisons;
            decipherments = 0;
            encipherments = 0;
            expansions = 0;
            hash_blocks = 0;
            length = r.length;
            handle = r.handle;
          };
      sum = r.sum;
      session = r.session;
      refused = false;
    }

abbrev pub after_final : Final → Told
after_final r =
    record {
      answer =
          record {
            number = 0;
            status = 0x9000;
            comparisons = r.comparisons;
            decipherments = r.decipherments;
            encipherments = r.encipherments;
            expansions = r.expansions;
            hash_blocks = r.hash_blocks;
            length = r.length;
            handle = 0;
          };
      sum = r.sum;
      session = no_session;
      refused = not r.accepted;
    }
