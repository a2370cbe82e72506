-- T-05's round trips hold. Assumes nothing.
use Rattle.std.specs.Prelude.{◌≡◌, refl, List, ℕ, ◌≤◌, length, replicate}
use Rattle.std.proofs.Common.{sym, subst, ◌∙◌, arith}
use Rattle.octets.specs.Bytes.{Bytes}
use Rattle.octets.specs.Writes.{take-over}
use Rattle.conversion.specs.Conversion.{converted, output_after}
use Rattle.conversion.specs.Answers.{number_is}
use Rattle.wiegand.specs.Wiegand as w
use Rattle.uuids.specs.Uuid as uuid
use Rattle.door_claims.specs.Door.{Conversion, wiegand_record, wiegand_text, uuid_record, uuid_text, written, Taken, Back, DoorNumbers}
use Rattle.door_claims.specs.Wiegand as wb
use Rattle.door_claims.specs.Uuid as ub

-- what is written where it is not refused
written_is : (c : Conversion) (x out : List ℕ) → c.number x (length out) ≡ 0 → written c x out ≡ c.result x
unfolding converted output_after
written_is c x out e = simp e (take-over out (c.result x) (length (c.result x)) refl)

-- there and back by what is written, from there and back by the definitions
back_by : (c d : Conversion) (same : List ℕ → List ℕ) (size : ℕ) →
    ((x : List ℕ) (room room' : ℕ) → Bytes x → c.number x room ≡ 0 → size ≤ room' → (d.number (c.result x) room' ≡ 0) × (d.result (c.result x) ≡ same x)) → Back c d same size
back_by c d same size h x out out' b e k =
    let z : c.number x (length out) ≡ 0 = sym (number_is (c.number x (length out)) (c.result x)) ∙ e in
    let q = h x (length out) (length out') b z k in
    subst (λ (s : List ℕ). Taken d s out' × (written d s out' ≡ same x)) (sym (written_is c x out z))
    (number_is (d.number (c.result x) (length out')) (d.result (c.result x)) ∙ q.0, written_is d (c.result x) out' q.0 ∙ q.1)

pub door-numbers : DoorNumbers
door-numbers =
    record {
      wiegand-record = back_by wiegand_text wiegand_record (λ x. x) 4 wb.record-back;
      uuid-record = back_by uuid_text uuid_record (λ x. x) 16 ub.record-back;
      wiegand-text = back_by wiegand_record wiegand_text (λ x. x) 26 (λ x room room' b. wb.text-back x room room');
      uuid-text = back_by uuid_record uuid_text uuid.small_text 36 (λ x room room' b. ub.text-back x room room');
      either-case = λ t out. number_is (uuid.text_number (uuid.small_text t) (length out)) (uuid.record_of (uuid.small_text t)) ∙ ub.small-number t (length out) ∙ sym (number_is (uuid.text_number t (length out)) (uuid.record_of t));
      one-record =
          λ t out e.
          let z : uuid.text_number t (length out) ≡ 0 = sym (number_is (uuid.text_number t (length out)) (uuid.record_of t)) ∙ e in
          written_is uuid_record (uuid.small_text t) out (ub.small-number t (length out) ∙ z) ∙ ub.small-record t (length out) z ∙ sym (written_is uuid_record t out z);
      some-text =
          λ r out b e.
          let o : List ℕ = replicate 4 0 in
          let q = back_by wiegand_text wiegand_record (λ x. x) 4 wb.record-back r out o b e (omega arith) in
          (written wiegand_text r out, o, q.0, q.1);
      of-a-text =
          λ t r out out' h e q.
          let z = sym (number_is (w.text_number t (length out')) (w.record_of t)) ∙ e in
          let k : w.record_of t ≡ r = sym (written_is wiegand_record t out' z) ∙ q in
          subst (λ (s : List ℕ). Taken wiegand_text s out) k (number_is (w.record_number (w.record_of t) (length out)) (w.text_of (w.record_of t)) ∙ (wb.text-back t (length out') (length out) z h).0);
      every-record = λ r out l h. number_is (uuid.record_number r (length out)) (uuid.text_of r) ∙ ub.record-taken r (length out) l h;
    }
