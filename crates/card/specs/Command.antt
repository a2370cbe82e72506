-- Document 01: a command call, from "Frame" to "Work sum", with its declines; T-04 and T-06 of document 02.
use Rattle.std.specs.Prelude.{Bool, cond, ◌&&◌, not, List, [], ℕ, eqb, length}
use Rattle.work.specs.Steps.{comparison, decipherment, encipherment, expansion, hash_block, counted, work_sum}
use Rattle.frame.specs.Frame.{frame_of, ins_of, initial_ins, data_of}
use Rattle.frame.specs.Declines.{Verdict, verdict}
use Rattle.initial.specs.Initial.{initial_reply}
use Rattle.final_command.specs.Final.{accepts_final, final_reply}
use Rattle.plaid_types.specs.Keys.{key_length_of}
use Rattle.plaid_types.specs.Tries.{tries_after}
use Rattle.plaid_types.specs.Cards.{Reply, with_session, with_tries}
use Rattle.plaid_types.specs.declared.Tries.{Tries}
use Rattle.plaid_types.specs.declared.Card.{Card}
use Rattle.plaid_types.specs.declared.Answer.{Answer}
use Rattle.plaid_types.specs.declared.Outcome.{Outcome}

-- "INS 87 (initial) or 86 (final)": what a command that is not declined means
unfoldable pub reply_to : Card → List ℕ → List ℕ → Reply
reply_to c cmd fresh = cond (eqb (ins_of (frame_of cmd)) initial_ins) (initial_reply c (data_of cmd) fresh) (final_reply c (data_of cmd) fresh)

-- T-06, "refused final commands": whether a command that is not declined is one
unfoldable pub refuses_final : Card → List ℕ → Bool
refuses_final c cmd = not (eqb (ins_of (frame_of cmd)) initial_ins) && not (accepts_final c (data_of cmd))

-- "Each [count] is the number of steps of its kind"; "Status: 9000"; "Every command answer but 8, 9 and 10 has number 0", and by T-06 but 26
abbrev pub told : Reply → Answer
told r =
    record {
      number = 0;
      status = 0x9000;
      comparisons = counted comparison r.steps;
      decipherments = counted decipherment r.steps;
      encipherments = counted encipherment r.steps;
      expansions = counted expansion r.steps;
      hash_blocks = counted hash_block r.steps;
      length = length r.bytes;
      handle = r.handle;
    }

-- a decline, "with .. counts, length and key handle 0"
abbrev pub declined : Verdict → Answer
declined v =
    record {
      number = v.number;
      status = v.status;
      comparisons = 0;
      decipherments = 0;
      encipherments = 0;
      expansions = 0;
      hash_blocks = 0;
      length = 0;
      handle = 0;
    }

-- the verdict on a call, by its interface, its frame and its length. T-04: for keys of l bytes, on which the pad bytes depend
abbrev pub verdict_on : ℕ → ℕ → List ℕ → List ℕ → ℕ → Verdict
verdict_on i l cmd fresh room = verdict i l (length cmd) (frame_of cmd) fresh room

-- a command that is not declined: "each command call also hands back a sum over its steps", which "is no part of the answer". T-06: t are the failed
-- tries after it
abbrev pub done : Card → Tries → Reply → Outcome
done c t r = record { answer = told r; sum = work_sum r.steps; card = with_tries (with_session c r.session) t }

-- "a declined command keeps [the session]"; it "makes no steps", and "Without steps the sum is 0."
abbrev pub undone : Card → Verdict → Outcome
undone c v = record { answer = declined v; sum = 0; card = c }

-- "A command is declined by 8, 9, 10 or a fault of its frame". T-06: by 26 too; and "The card counts refused final commands separately for the two
-- [interfaces]"
unfoldable pub outcome : Card → ℕ → List ℕ → List ℕ → ℕ → Outcome
outcome c i cmd fresh room =
    cond (eqb (verdict_on i (key_length_of c) cmd fresh room).status 0x9000)
    (done c (tries_after i (refuses_final c cmd) c.tries) (reply_to c cmd fresh))
    (undone c (verdict_on i (key_length_of c) cmd fresh room))

-- "The answer bytes are the first 256 or 16B of the output, none after a decline."
unfoldable pub answer_bytes : Card → ℕ → List ℕ → List ℕ → ℕ → List ℕ
answer_bytes c i cmd fresh room = cond (eqb (verdict_on i (key_length_of c) cmd fresh room).status 0x9000) (reply_to c cmd fresh).bytes []
