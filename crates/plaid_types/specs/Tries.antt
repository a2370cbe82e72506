-- Document 02, T-06: failed tries for each interface.
use Rattle.std.specs.Prelude.{◌≡◌, Bool, false, cond, ◌&&◌, ◌||◌, ℕ, ◌+◌, min, eqb, Result, MatchResult}
use Rattle.refusals.specs.declared.Refusal.{Refusal}
use Rattle.refusals.specs.declared.Refusal.TheVariants as refusal
use Rattle.plaid_types.specs.declared.Interface.{Interface}
use Rattle.plaid_types.specs.declared.Interface.TheVariants.{Contact, Contactless}
use Rattle.plaid_types.specs.declared.Tries.{Tries}

-- "Each command call names its interface, contact (0) or contactless (1)"
abbrev pub contact : ℕ
contact = 0

abbrev pub contactless : ℕ
contactless = 1

-- "26 unknown interface" is the other case
unfoldable pub is_interface : ℕ → Bool
is_interface i = eqb i contact || eqb i contactless

abbrev pub interface_number : Interface → ℕ
interface_number Contact = contact
interface_number Contactless = contactless

-- a number names the interface that has it; another is refused
abbrev pub NamesInterface : ℕ → Result Interface Refusal → Type 0
NamesInterface i r = MatchResult r (λ k. i ≡ interface_number k) (λ e. (is_interface i ≡ false) × (e ≡ refusal.Interface))

-- "from 0 on a new card"
abbrev pub no_tries : Tries
no_tries = record { contact = 0; contactless = 0 }

-- "and holds at 65,535": n, or 65,535 where it is more
unfoldable pub holding : ℕ → ℕ
holding n = min n 65535

abbrev pub one_more : ℕ → ℕ
one_more n = holding (n + 1)

-- "The card counts refused final commands separately for the two": the counts after a call on interface i, which was a refused final command or none
unfoldable pub tries_after : ℕ → Bool → Tries → Tries
tries_after i refused t =
    record {
      contact = cond (refused && eqb i contact) (one_more t.contact) t.contact;
      contactless = cond (refused && eqb i contactless) (one_more t.contactless) t.contactless;
    }

-- the count of interface j
abbrev pub tries_on : ℕ → Tries → ℕ
tries_on j t = cond (eqb j contact) t.contact t.contactless
