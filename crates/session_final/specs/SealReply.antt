-- A card that holds Seal's mode replies with that mode's record, its payload and DivData, padded, under KeysHash. Assumes nothing.
use Rattle.std.specs.Prelude.{◌≡◌, List, ◌++◌, ℕ, ◌+◌, ◌<◌, length}
use Rattle.std.proofs.Common.{sym, ap, ◌∙◌, arith}
use Rattle.aes.specs.Aes.{aes_under}
use Rattle.padding.specs.Method2.{blocks_for, padded}
use Rattle.cbc.specs.Cbc.{encrypted, zeros}
use Rattle.plaid_types.specs.declared.OpModeId.{OpModeId}
use Rattle.plaid_types.specs.declared.ModeSlot.{ModeSlot}
use Rattle.plaid_types.specs.declared.Card.{Card}
use Rattle.load.proofs.Laws.{mode_at, GoodRecord, Stocked}
use Rattle.final_command.specs.Final.{card_keys_hash, first_mode, final_reply}
use Rattle.reader_seal.specs.Seal.{keys_hash_of}
use Rattle.session_final.specs.SealText.{SharedSession, sealed, seal-card_keys_hash}
use Rattle.session_final.specs.SealAccepted.{seal-slot, seal-accepted}
use Rattle.session_final.specs.Accepts.{Found, first_found}
use Rattle.session_final.specs.Reply.{record_at, body_at, named_body, length-record, body-size, bytes-by, accepted-reply}

-- the record of the mode that Seal took, and its body
abbrev pub sealed_slot : Card → OpModeId → ModeSlot
sealed_slot c mode = mode_at c (first_mode 0 mode c.modes)

abbrev pub sealed_record : Card → OpModeId → List ℕ
sealed_record c mode = record_at c (sealed_slot c mode)

abbrev pub sealed_body : Card → OpModeId → List ℕ
sealed_body c mode = body_at c (sealed_slot c mode)

module _ (c : Card) (mode : OpModeId) (g : Stocked c) (h : first_mode 0 mode c.modes < 16) where
  -- the slot found is held and is Seal's mode
  pub sealed-found : Found (sealed_slot c mode) mode
  sealed-found = first_found mode c.modes (omega (arith, g.modes-long))

  sealed-good : GoodRecord (sealed_slot c mode) c.reply_size
  sealed-good = g.good (first_mode 0 mode c.modes) sealed-found.is_held

  pub length-sealed_record : length (sealed_record c mode) ≡ (sealed_slot c mode).len
  length-sealed_record = length-record c (sealed_slot c mode) g sealed-good

  -- its body and DivData take the B blocks of the card's reply
  sealed-size : c.reply_size ≡ blocks_for (length (sealed_body c mode) + 16)
  sealed-size = sym (body-size c (sealed_slot c mode) g sealed-good)

module _ (l : ℕ) (c : Card) (fa r1 r2 : List ℕ) (mode : OpModeId) (payload : List ℕ) (k : SharedSession l c fa r1 r2 mode payload) (g : Stocked c)
    (h : first_mode 0 mode c.modes < 16) where
  -- the reply is the mode's body and DivData, padded, by CBC under KeysHash
  pub seal-reply : (fresh : List ℕ) →
      (final_reply c (sealed l c fa r1 r2 mode payload) fresh).bytes ≡
      encrypted (aes_under (keys_hash_of l r1 r2)) zeros (blocks_for (length (sealed_body c mode) + 16)) (padded (sealed_body c mode ++ c.div_data))
  seal-reply fresh =
      let d : List ℕ = sealed l c fa r1 r2 mode payload in
      (accepted-reply c d fresh g (seal-accepted l c fa r1 r2 mode payload k h)).replied
      ∙ bytes-by (card_keys_hash c d) (keys_hash_of l r1 r2) c.reply_size (blocks_for (length (sealed_body c mode) + 16))
      (padded (named_body c d ++ c.div_data)) (padded (sealed_body c mode ++ c.div_data))
      (seal-card_keys_hash l c fa r1 r2 mode payload k) (sealed-size c mode g h)
      (ap (λ (n : ℕ). padded (body_at c (mode_at c n) ++ c.div_data)) (seal-slot l c fa r1 r2 mode payload k))
