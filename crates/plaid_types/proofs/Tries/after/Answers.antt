-- `plaid_types::Tries::after` meets its contract, by the interface that the number names. Assumes nothing.
use Rattle.std.proofs.Common.{◌≡◌, refl, ℕ, ap₂, ◌∙◌, arith}
use Rattle.plaid_types.specs.TriesLaws.{after-contact, after-contactless, after-else}
use Rattle.plaid_types.specs.declared.Tries.{Tries}
use Rattle.plaid_types.proofs.Tries.after.Goals as goal

-- each count by an equation of its own, that names no call: an edit of either is refused with the numbers that differ
counts : {x y m n : ℕ} {t : Tries} → x ≡ m → y ≡ n → record { contact = m; contactless = n } ≡ t → record { contact = x; contactless = y } ≡ t
counts p q e = ap₂ (λ (m n : ℕ). record { contact = m; contactless = n }) p q ∙ e

pub returns-in-Ok-Contact : goal.returns-in-Ok-Contact
returns-in-Ok-Contact c = counts (omega arith) (omega arith) (after-contact c.args.refused c.args.self (rw c.in-Ok-Contact.field-0-is at c.in-Ok-Contact.ensures) refl)

pub returns-in-Ok-Contactless : goal.returns-in-Ok-Contactless
returns-in-Ok-Contactless c = counts (omega arith) (omega arith) (after-contactless c.args.refused c.args.self (rw c.in-Ok-Contactless.field-0-is at c.in-Ok-Contactless.ensures) refl)

pub returns-in-Err : goal.returns-in-Err
returns-in-Err c = counts (omega arith) (omega arith) (after-else c.args.i c.args.refused c.args.self c.in-Err.ensures.0)
