-- The frame of Seal's command, as a card reads it: it is without fault, INS is that of a final command, and its data are the sealed STR2, at
-- most 240 bytes in whole blocks. Assumes nothing.
use Rattle.std.specs.Prelude.{◌≡◌, List, ℕ, ◌/◌, ◌%◌, length}
use Rattle.std.proofs.Math.Path.{refl}
use Rattle.std.proofs.Common.{ap, ◌∙◌, arith}
use Rattle.frame.specs.Frame.{frame_of, ins_of, final_ins, status_of, data_of}
use Rattle.frame.specs.Framed.{framed-ins, framed-status, framed-data}
use Rattle.plaid_types.specs.declared.OpModeId.{OpModeId}
use Rattle.diversification.specs.Diversification.{diversified_by}
use Rattle.reader_seal.specs.Seal.{keys_hash_of, sealed_blocks, lc_of, sealed_data, final_command, seal_command}
use Rattle.reader_seal.specs.Laws.{length-sealed_data}

module _ (l : ℕ) (fa div rnd1 rnd2 : List ℕ) (mode : OpModeId) (payload : List ℕ) where
  -- a card finds no fault in the frame of Seal's command
  pub seal-status : status_of (length (seal_command l fa div rnd1 rnd2 mode payload)) (frame_of (seal_command l fa div rnd1 rnd2 mode payload)) ≡ 0x9000
  unfolding seal_command final_command
  seal-status =
      framed-status final_ins (lc_of l (length payload)) (sealed_data l (diversified_by fa div) mode rnd2 payload (keys_hash_of l rnd1 rnd2))
      (length-sealed_data l (diversified_by fa div) mode rnd2 payload (keys_hash_of l rnd1 rnd2)) refl (omega arith)

  -- it is a final command
  pub seal-ins : ins_of (frame_of (seal_command l fa div rnd1 rnd2 mode payload)) ≡ final_ins
  unfolding seal_command final_command
  seal-ins =
      framed-ins final_ins (lc_of l (length payload)) (sealed_data l (diversified_by fa div) mode rnd2 payload (keys_hash_of l rnd1 rnd2))
      (length-sealed_data l (diversified_by fa div) mode rnd2 payload (keys_hash_of l rnd1 rnd2))

  -- its data are the padded STR2 under the diversified key
  pub seal-data : data_of (seal_command l fa div rnd1 rnd2 mode payload) ≡ sealed_data l (diversified_by fa div) mode rnd2 payload (keys_hash_of l rnd1 rnd2)
  unfolding seal_command final_command
  seal-data =
      framed-data final_ins (lc_of l (length payload)) (sealed_data l (diversified_by fa div) mode rnd2 payload (keys_hash_of l rnd1 rnd2))
      (length-sealed_data l (diversified_by fa div) mode rnd2 payload (keys_hash_of l rnd1 rnd2))

  -- they are Lc bytes
  pub seal-data-long : length (data_of (seal_command l fa div rnd1 rnd2 mode payload)) ≡ lc_of l (length payload)
  seal-data-long = ap length seal-data ∙ length-sealed_data l (diversified_by fa div) mode rnd2 payload (keys_hash_of l rnd1 rnd2)

  -- whole blocks, and as many as STR2 takes
  pub seal-data-whole : length (data_of (seal_command l fa div rnd1 rnd2 mode payload)) % 16 ≡ 0
  seal-data-whole = omega (arith, seal-data-long)

  pub seal-data-blocks : length (data_of (seal_command l fa div rnd1 rnd2 mode payload)) / 16 ≡ sealed_blocks l (length payload)
  seal-data-blocks = omega (arith, seal-data-long)
