-- `to_text` meets its contract: it answers by what `text` gives. Assumes nothing.
use Rattle.std.proofs.Common.{◌≡◌, ℕ, List, length, Ok, Err, refl, sym, ap, ap₂, ◌∙◌, arith, rules}
use Rattle.conversion.specs.declared.Converted.{Converted}
use Rattle.conversion.specs.Conversion.{converted}
use Rattle.conversion.specs.Answers.{answer-given}
use Rattle.uuids.specs.Uuid.{record_number, text_of}
use Rattle.uuids.specs.Groups.{length-text}
use Rattle.uuids.specs.Numbers.{record-shown}
use Rattle.uuids.proofs.to_text.Goals as goal

-- what is returned for a result, field by field
made_fields : (result : List ℕ) {number : ℕ} {r : Converted} → number ≡ 0 → r.number ≡ 0 → r.length ≡ length result → r ≡ converted number result
unfolding converted
made_fields result e f g = ap₂ (λ (n k : ℕ). record { number = n; length = k }) f g ∙ ap (λ (n : ℕ). converted n result) (sym e)

pub returns-in-Ok : goal.returns-in-Ok
returns-in-Ok c =
    let s = c.args.bytes.now in
    let o = c.args.out.now in
    let e = c.in-Ok.ensures in
    let made = c.done.ensures.value in
    let letters : length c.in-Ok.letters ≡ 36 = search rules in
    let long = length-text s (record-shown s (length o) e.0).0 in
    record {
      value = made_fields (text_of s) e.0 (ap (λ (x : Converted). x.number) made) (simp (made, letters, long) refl);
      out_after = (answer-given (record_number s (length o)) (text_of s) o (Ok c.in-Ok.letters) e made c.done.ensures.out_after).1;
    }

pub returns-in-Err : goal.returns-in-Err
returns-in-Err c =
    let s = c.args.bytes.now in
    let o = c.args.out.now in
    let number = ap (λ (n : ℕ). record { number = n; length = 0 }) c.number.ensures in
    let w = answer-given (record_number s (length o)) (text_of s) o (Err c.in-Err.refusal) c.in-Err.ensures (c.declined.ensures ∙ number) refl in
    record { value = w.0; out_after = w.1 }

pub done-requires : goal.done-requires
done-requires c =
    let letters : length c.in-Ok.letters ≡ 36 = search rules in
    omega (arith, (record-shown c.args.bytes.now (length c.args.out.now) c.in-Ok.ensures.0).1)
