-- What every list keeps true of the card that a successful load returned: calls declined, refused, accepted and broken off alike, and by T-07 loads of
-- key sets, refused or not. Assumes nothing.
use Rattle.std.specs.Prelude.{◌≡◌, refl, true, length}
use Rattle.std.proofs.Common.{sym, ap, ◌∙◌}
use Rattle.std.proofs.Math.Path.{subst}
use mathlib.Core.List.{List, []}
use Rattle.plaid_types.specs.Cards.{no_session, with_sets}
use Rattle.plaid_types.specs.declared.Session.{Session}
use Rattle.plaid_types.specs.declared.Card.{Card}
use Rattle.load.specs.Load.{table_of}
use Rattle.load.proofs.Laws.{Stocked, stocked-state}
use Rattle.card.specs.Lists.{Place, card_after, load_after, session_after}
use Rattle.card.specs.Demand3.{LoadedAs, after-loaded, session-after}
use Rattle.session.specs.Kept.{OpenedBy, Lawful, none-lawful, after-lawful, load-stocked}
use Rattle.claims.specs.Load.{Load, card_of, sets_at}
use Rattle.claims.specs.Loaded.{is-a-load}
use Rattle.claims.specs.Sets.{table_at}

-- the card that the load l and the list ps left
abbrev pub left : Load → List Place → Card
left l ps = card_after (card_of l) ps

pub record Kept (l : Load) (ps : List Place) : Type 0 where
  -- all that the load made, but for the table, which is that of the key sets there: "a card keeps only this state", the session and by T-06 the failed
  -- tries, beside it
  pub same : LoadedAs (with_sets (card_of l) (table_of (sets_at l ps))) (left l ps)
  pub stocked : Stocked (left l ps)
  -- 32 bytes hold RND1, and 32 the FAKey
  pub rnd1 : length (left l ps).session.rnd1 ≡ 32
  pub key : length (left l ps).session.fa_key ≡ 32
  -- an open session's KeySetID and FAKey are those of a set of the table at its initial command
  pub opened : (left l ps).session.opened ≡ true → OpenedBy (card_of l) ps (left l ps).session

module _ (l : Load) (ps : List Place) where
  loaded : LoadedAs (load_after (card_of l) ps) (left l ps)
  loaded = after-loaded (card_of l) (card_of l) refl ps

  session-is : (left l ps).session ≡ session_after (card_of l) no_session ps
  session-is = session-after (card_of l) (card_of l) refl ps ∙ ap (λ (z : Session). session_after (card_of l) z ps) (is-a-load l).no-session

  lawful : Lawful (card_of l) ps (left l ps).session
  unfolding load_after
  lawful =
      subst (λ (z : Session). Lawful (card_of l) ps z) (sym session-is)
      (after-lawful (card_of l) (is-a-load l).stocked [] no_session (none-lawful (card_of l) []) ps)

  pub kept : Kept l ps
  kept =
      record {
        same = subst (λ (c : Card). LoadedAs c (left l ps)) (table_at l ps) loaded;
        stocked =
            subst (λ (c : Card). Stocked c) (sym loaded)
            (stocked-state (load_after (card_of l) ps) (left l ps).session (left l ps).tries (load-stocked (card_of l) (is-a-load l).stocked ps));
        rnd1 = lawful.rnd1;
        key = lawful.key;
        opened = lawful.opened;
      }
