-- `card::decline` meets its contract: number and status are the decline's, and all else is 0. Assumes nothing.
use Rattle.std.proofs.Common.{◌≡◌, ℕ, false, sym, ap, ap₂, ◌∙◌, rules}
use Rattle.plaid_types.specs.declared.Answer.{Answer}
use Rattle.plaid_types.specs.declared.Session.{Session}
use Rattle.frame.specs.declared.Decline.{Decline}
use Rattle.frame.specs.Told.{decline_told}
use Rattle.card.specs.declared.Told.{Told}
use Rattle.card.specs.After.{after_decline}
use Rattle.card.proofs.decline.Goals.{in-Number, in-Status}
use Rattle.card.proofs.decline.Goals as goal

abbrev blank : Answer
blank = record { number = 0; status = 0; comparisons = 0; decipherments = 0; encipherments = 0; expansions = 0; hash_blocks = 0; length = 0; handle = 0 }

abbrev pair : Decline → ℕ × ℕ
pair d = ((decline_told d).number, (decline_told d).status)

abbrev filled : Session → Answer → ℕ × ℕ → Told
filled s a p =
    record {
      answer =
          record {
            number = p.0;
            status = p.1;
            comparisons = a.comparisons;
            decipherments = a.decipherments;
            encipherments = a.encipherments;
            expansions = a.expansions;
            hash_blocks = a.hash_blocks;
            length = a.length;
            handle = a.handle;
          };
      sum = 0;
      session = s;
      refused = false;
    }

blank-is : (a : Answer) → a.number ≡ 0 → a.status ≡ 0 → a.comparisons ≡ 0 → a.decipherments ≡ 0 → a.encipherments ≡ 0 → a.expansions ≡ 0 → a.hash_blocks ≡ 0 → a.length ≡ 0 → a.handle ≡ 0 → a ≡ blank
blank-is a n t c d e x h l k = λ i. record { number = n i; status = t i; comparisons = c i; decipherments = d i; encipherments = e i; expansions = x i; hash_blocks = h i; length = l i; handle = k i }

filled-is : (s : Session) (d : Decline) {a : Answer} {p : ℕ × ℕ} → a ≡ blank → p ≡ pair d → filled s a p ≡ after_decline s (decline_told d)
filled-is s d ea ep = ap₂ (filled s) ea ep

pub returns : goal.returns
returns c =
    let z : c.default.result ≡ blank = blank-is c.default.result (search rules) (search rules) (search rules) (search rules) (search rules) (search rules) (search rules) (search rules) (search rules) in
    let p : c.match-d.number ≡ pair c.args.d = elim c.match-d.branch [
      | in-Number w ↦ w.number-is ∙ ap (λ (n : ℕ). (n, 0)) w.number.ensures ∙ sym (ap pair w.in-Number.is)
      | in-Status w ↦ w.number-is ∙ ap (λ (n : ℕ). (0, n)) w.status.ensures ∙ sym (ap pair w.in-Status.is)
    ] in
    filled-is c.args.session c.args.d z p
