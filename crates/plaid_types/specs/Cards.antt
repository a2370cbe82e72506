-- Document 01, "The card": the state, and what a command that is not declined means; with T-06 and T-07 of document 02.
use Rattle.std.specs.Prelude.{false, List, ℕ, replicate}
use Rattle.work.specs.Steps.{Step}
use Rattle.plaid_types.specs.declared.KeySetSlot.{KeySetSlot}
use Rattle.plaid_types.specs.declared.ModeSlot.{ModeSlot}
use Rattle.plaid_types.specs.declared.Session.{Session}
use Rattle.plaid_types.specs.declared.Tries.{Tries}
use Rattle.plaid_types.specs.declared.Card.{Card}

-- "State: no session, or an open one with KeySetID and RND1. A new card has none." T-07: "An open session now carries its FAKey"
abbrev pub no_session : Session
no_session = record { opened = false; id = record { 0 = 0 }; rnd1 = replicate 32 0; fa_key = replicate 32 0 }

-- an empty slot
abbrev pub no_set : KeySetSlot
no_set = record { held = false; id = record { 0 = 0 }; handle = 0; fa_key = replicate 32 0 }

abbrev pub no_mode : ModeSlot
no_mode = record { held = false; id = record { 0 = 0 }; start = 0; len = 0 }

-- "Beside what its load gave, and B, a card keeps only this state". T-06: "Such new fields .. join document 01's card state": a command changes
-- the session and the failed tries alone
abbrev pub with_session : Card → Session → Card
with_session c s =
    record {
      sets = c.sets;
      modes = c.modes;
      area = c.area;
      div_data = c.div_data;
      shill_key = c.shill_key;
      shill_handle = c.shill_handle;
      key_length = c.key_length;
      reply_size = c.reply_size;
      session = s;
      tries = c.tries;
    }

abbrev pub with_tries : Card → Tries → Card
with_tries c t =
    record {
      sets = c.sets;
      modes = c.modes;
      area = c.area;
      div_data = c.div_data;
      shill_key = c.shill_key;
      shill_handle = c.shill_handle;
      key_length = c.key_length;
      reply_size = c.reply_size;
      session = c.session;
      tries = t;
    }

-- T-07: "A new load of key sets .. changes only the table"
abbrev pub with_sets : Card → List KeySetSlot → Card
with_sets c t =
    record {
      sets = t;
      modes = c.modes;
      area = c.area;
      div_data = c.div_data;
      shill_key = c.shill_key;
      shill_handle = c.shill_handle;
      key_length = c.key_length;
      reply_size = c.reply_size;
      session = c.session;
      tries = c.tries;
    }

-- what a command that is not declined means: the key handle, the answer bytes, the steps in order, and the session afterwards.
-- Counts, length and work sum all come from it (`told` and `done` of the crate `card`)
pub record Reply : Type 0 where
  pub handle : ℕ
  pub bytes : List ℕ
  pub steps : List Step
  pub session : Session
