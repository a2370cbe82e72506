-- What the initial command's functions hand back and write, in the terms of "Initial".
use Rattle.std.specs.Prelude.{Bool, List, [], ◌∷◌, ◌++◌, ℕ, length}
use Rattle.work.specs.declared.Made.{Made}
use Rattle.work.specs.Steps.{comparison, counted, sum_from, work_sum}
use Rattle.frame.specs.Declines.{pad_bytes}
use Rattle.list.specs.Ber.{place_count, is_formed, first_entry}
use Rattle.plaid_types.specs.Cards.{Reply}
use Rattle.plaid_types.specs.declared.KeySetId.{KeySetId}
use Rattle.plaid_types.specs.declared.KeySetSlot.{KeySetSlot}
use Rattle.initial.specs.Initial.{slot_steps, first_slot, place_steps, first_place}
use Rattle.initial.specs.declared.Initial.{Initial}

-- of a place's comparisons: the first slot that matches, the count, and the sum from s on
abbrev pub slots_found : Bool → KeySetId → List KeySetSlot → ℕ → Made ℕ
slots_found present v sets s =
    record {
      value = first_slot 0 present v sets;
      count = counted comparison (slot_steps present v sets);
      sum = sum_from s (slot_steps present v sets);
    }

-- of the comparisons of n places from place p on: the slot of the first entry that the card holds, the count, and the sum
abbrev pub places_found : List KeySetSlot → Bool → List ℕ → ℕ → ℕ → Made ℕ
places_found sets formed d p n =
    record {
      value = first_place sets formed d p n;
      count = counted comparison (place_steps sets formed d p n);
      sum = work_sum (place_steps sets formed d p n);
    }

-- of all the places of the data
abbrev pub data_found : List KeySetSlot → List ℕ → Made ℕ
data_found sets d = places_found sets (is_formed d) d (first_entry d) (place_count d)

-- what the block has before STR1: "00 02, the pad bytes, 00"
abbrev pub head_of : ℕ → List ℕ → List ℕ
head_of l fresh = 0 ∷ 2 ∷ (pad_bytes l fresh ++ (0 ∷ []))

-- of a reply, beside its bytes: the count and the sum are over its steps
abbrev pub told_initial : Reply → Initial
told_initial r =
    record {
      handle = r.handle;
      comparisons = counted comparison r.steps;
      length = length r.bytes;
      sum = work_sum r.steps;
      session = r.session;
    }
