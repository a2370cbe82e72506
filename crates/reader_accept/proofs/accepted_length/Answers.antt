-- `reader_accept::accepted_length` meets its contract: each way out is a case of the definitions (`Cases`). Assumes nothing.
use mathlib.Core.Path.{◌≡◌, refl, sym, ap, ◌∙◌}
use native.Mathlib.Omega.{arith}
use lib.ListN.{length}
use lib.Seq.{length-take-le}
use Rattle.key_expansion.specs.KeyLength.{is_key_length, length_most}
use Rattle.refusals.specs.Laws.{number-some}
use Rattle.reader_accept.proofs.Cases.{seen, not-deciphered, text-refused, text-accepted}
use Rattle.reader_accept.proofs.Tests.{length-judged}
use Rattle.std.proofs.Common.{rules}
use Rattle.std.proofs.lemmas.Result.{err_from_is_err_and}
use Rattle.reader_accept.proofs.accepted_length.Goals as goal

pub returns-in_err-fault : goal.returns-in_err-fault
returns-in_err-fault c =
    let a = c.args in
    let p = err_from_is_err_and c.from_residual.result c.from_residual.ensures.1 in
    let all = not-deciphered a.l a.keys_hash a.div_data a.record_length a.response.now a.work.now c.in_err-fault.ensures (λ z. omega (arith, number-some c.in_err-fault.field-0.0)) in
    record { told = rw (p.1, p.2) all.0; len = rw p.1 tt; bytes = all.1 }

pub slice_bounds-bytes-end : goal.slice_bounds-bytes-end
slice_bounds-bytes-end c =
    let e : length c.args.keys_hash.bytes ≡ 32 = search rules in
    omega (arith, e, length_most _ (seen c.in_ok-fault.ensures).length-one)

pub slice_bounds-hash-end : goal.slice_bounds-hash-end
slice_bounds-hash-end c =
    let e : length c.args.keys_hash.bytes ≡ 32 = search rules in
    sym (length-take-le _ _ (omega (arith, e, length_most _ (seen c.in_ok-fault.ensures).length-one)))

pub decipher_into-requires : goal.decipher_into-requires
decipher_into-requires c =
    let e : length c.args.keys_hash.bytes ≡ 32 = search rules in
    let s = seen c.in_ok-fault.ensures in
    let a = c.args in
    (ap is_key_length (length-take-le a.l a.keys_hash.bytes (omega (arith, e, length_most _ s.length-one))) ∙ s.length-one, s.length-known, s.room-enough)

pub slice_bounds-judged-end : goal.slice_bounds-judged-end
slice_bounds-judged-end c = search (rules, (seen c.in_ok-fault.ensures).room-enough)

pub slice_bounds-judged-end-2 : goal.slice_bounds-judged-end-2
slice_bounds-judged-end-2 c = sym (length-take-le _ _ (search (rules, (seen c.in_ok-fault.ensures).room-enough)))

pub clear-requires : goal.clear-requires
clear-requires c = omega (arith, (seen c.in_ok-fault.ensures).room-enough)

pub returns-then-not-has_record : goal.returns-then-not-has_record
returns-then-not-has_record c =
    let a = c.args in
    let all = text-refused a.l a.keys_hash a.div_data a.record_length a.response.now a.work.now
    c.in_ok-fault.ensures
    c.decipher_into.ensures
    (length-judged _ _ c.judged.ensures c.unwrap_or-body.ensures)
    c.has_record.ensures
    c.if-not-has_record.true
    c.clear.ensures in
    record { told = all.0; len = tt; bytes = all.1 }

pub returns : goal.returns
returns c =
    let a = c.args in
    let all = text-accepted a.l a.keys_hash a.div_data a.record_length a.response.now a.work.now
    c.in_ok-fault.ensures
    c.decipher_into.ensures
    (length-judged _ _ c.judged.ensures c.unwrap_or-body.ensures)
    c.has_record.ensures
    c.if-not-has_record.false in
    record { told = all.0; len = refl; bytes = all.1 }
