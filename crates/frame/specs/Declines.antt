-- Document 01, "When an operation declines", of a command, with T-06 of document 02.
use Rattle.std.specs.Prelude.{Bool, true, cond, ◌&&◌, not, List, [], ◌∷◌, ℕ, eqb, ltb, length, drop}
use Rattle.plaid_types.specs.Keys.{str1_length}
use Rattle.plaid_types.specs.Tries.{is_interface}
use Rattle.frame.specs.Frame.{status_of}

-- what a call is told: 9000 where it goes on; a number, or a status of ISO/IEC 7816-4, where it is declined
pub record Verdict : Type 0 where
  pub number : ℕ
  pub status : ℕ

abbrev pub no_zero : List ℕ → Bool
no_zero [] = true
no_zero (b ∷ bs) = not (eqb b 0) && no_zero bs

-- "Each command call also gets 253 fresh bytes. F is the first 50; the other 203 are the pad bytes." T-04: "STR1 is then 50, 66 or 82 bytes, and
-- the pad bytes are 203, 187 or 171 of the same 253": F has as many bytes as STR1, for which it may stand
unfoldable pub pad_bytes : ℕ → List ℕ → List ℕ
pad_bytes l fresh = drop (str1_length l) fresh

-- "8 fresh bytes not 253; 9 a zero pad byte; 10 output below 256; these three with status .. 0. Then .. by ISO/IEC 7816-4 status". T-06: "26 unknown
-- interface, before 8 and like it". The number and status of a call on interface i to a card with keys of l bytes, whose command has n bytes and the
-- frame f. Status 9000 where it is not declined
unfoldable pub verdict : ℕ → ℕ → ℕ → List ℕ → List ℕ → ℕ → Verdict
verdict i l n f fresh room =
    cond (is_interface i)
    (cond (eqb (length fresh) 253)
    (cond (no_zero (pad_bytes l fresh))
    (cond (ltb room 256)
    (record { number = 10; status = 0 })
    (record { number = 0; status = status_of n f }))
    (record { number = 9; status = 0 }))
    (record { number = 8; status = 0 }))
    (record { number = 26; status = 0 })
