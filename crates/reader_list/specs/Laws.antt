-- Laws of List: the length of its command, and that a card takes the command as an initial one whose data are the list. Assumes nothing.
use Rattle.std.specs.Prelude.{◌≡◌, List, [], ◌∷◌, get_or}
use Rattle.std.proofs.Math.Path.{refl}
use Prim.Native.Nat.{ℕ, zero, suc, ◌+◌, ◌*◌, ◌<◌, ◌≤◌}
use native.Mathlib.Omega.{arith}
use Rattle.std.proofs.Math.ListN.{length}
use Rattle.std.proofs.Common.{length-append}
use Rattle.octets.specs.Bytes.{Bytes}
use Rattle.octets.specs.ByteLists.{append-bytes, zeros-bytes}
use Rattle.list.specs.Encoding.{encoded}
use Rattle.list.specs.Meaning.{length-encoded, encoded-bytes}
use Rattle.frame.specs.Frame.{frame_of, ins_of, initial_ins, status_of, data_of}
use Rattle.frame.specs.Framed.{framed-ins, framed-status, framed-data}
use Rattle.reader_list.specs.List.{list_command}

-- "4k + 8 bytes for k"
pub length-command : (ids : List ℕ) → length (list_command ids) ≡ 4 * length ids + 8
unfolding list_command
length-command ids = omega (arith, length-append (encoded ids) (0 ∷ []), length-encoded ids)

-- what a card sees of a command that lists ids: bytes in a frame without fault, the INS of an initial command, and the list as its data
pub record Taken (ids c : List ℕ) : Type 0 where
  pub bytes : Bytes c
  pub status : status_of (length c) (frame_of c) ≡ 0x9000
  pub ins : ins_of (frame_of c) ≡ initial_ins
  pub list : data_of c ≡ encoded ids

module _ (ids : List ℕ) (some-ids : 1 ≤ length ids) (most : length ids ≤ 16) where
  command-bytes : ((i : ℕ) → get_or ids i 0 < 65536) → Bytes (list_command ids)
  unfolding list_command
  command-bytes f zero = omega arith
  command-bytes f (suc zero) = omega arith
  command-bytes f (suc (suc zero)) = omega arith
  command-bytes f (suc (suc (suc zero))) = omega arith
  command-bytes f (suc (suc (suc (suc zero)))) = omega (arith, length-encoded ids)
  command-bytes f (suc (suc (suc (suc (suc i))))) = append-bytes (encoded ids) (0 ∷ []) (encoded-bytes ids (omega arith) f) (zeros-bytes 1) i

  -- List's command is an initial command to a card
  pub command-taken : ((i : ℕ) → get_or ids i 0 < 65536) → Taken ids (list_command ids)
  unfolding list_command
  command-taken f =
      let n = length (encoded ids) in
      record {
        bytes = command-bytes f;
        status = framed-status initial_ins n (encoded ids) refl refl (omega (arith, length-encoded ids));
        ins = framed-ins initial_ins n (encoded ids) refl;
        list = framed-data initial_ins n (encoded ids) refl;
      }
