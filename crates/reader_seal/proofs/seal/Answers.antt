-- `reader_seal::seal` meets its contract: each way out is a case of the definitions (`Cases`). Assumes nothing.
use mathlib.Core.Path.{◌≡◌, sym, ap, ◌∙◌}
use native.Mathlib.Omega.{arith}
use lib.ListN.{length}
use lib.Seq.{length-take-le}
use Rattle.key_expansion.specs.KeyLength.{is_key_length, length_most}
use Rattle.reader_seal.proofs.Cases.{seen, taken-most, not-sealed, command-made}
use Rattle.std.proofs.Common.{rules}
use Rattle.reader_seal.proofs.seal.Goals as goal

pub returns-in-Err : goal.returns-in-Err
returns-in-Err c =
    let a = c.args in
    let all = not-sealed a.l a.fa_key a.div_data a.rnd1 a.rnd2 a.mode a.payload.now a.out.now c.in-Err.r c.in-Err.ensures c.number.ensures c.none.ensures in
    record { told = all.0; bytes = all.1 }

pub shared_ref_as_front-key : goal.shared_ref_as_front-key
shared_ref_as_front-key c =
    let e : length c.args.fa_key.bytes ≡ 32 = search rules in
    omega (arith, e, length_most _ (seen c.in-Ok.ensures).length-one)

pub slice_bounds-key-end : goal.slice_bounds-key-end
slice_bounds-key-end c =
    let e : length c.args.fa_key.bytes ≡ 32 = search rules in
    sym (length-take-le _ _ (omega (arith, e, length_most _ (seen c.in-Ok.ensures).length-one)))

pub shared_ref_as_front-r1 : goal.shared_ref_as_front-r1
shared_ref_as_front-r1 c =
    let e : length c.args.rnd1.bytes ≡ 32 = search rules in
    omega (arith, e, length_most _ (seen c.in-Ok.ensures).length-one)

pub slice_bounds-r1-end : goal.slice_bounds-r1-end
slice_bounds-r1-end c =
    let e : length c.args.rnd1.bytes ≡ 32 = search rules in
    sym (length-take-le _ _ (omega (arith, e, length_most _ (seen c.in-Ok.ensures).length-one)))

pub shared_ref_as_front-r2 : goal.shared_ref_as_front-r2
shared_ref_as_front-r2 c =
    let e : length c.args.rnd2.bytes ≡ 32 = search rules in
    omega (arith, e, length_most _ (seen c.in-Ok.ensures).length-one)

pub slice_bounds-r2-end : goal.slice_bounds-r2-end
slice_bounds-r2-end c =
    let e : length c.args.rnd2.bytes ≡ 32 = search rules in
    sym (length-take-le _ _ (omega (arith, e, length_most _ (seen c.in-Ok.ensures).length-one)))

pub hashed-digest-requires : goal.hashed-digest-requires
hashed-digest-requires c = let h = length_most _ (seen c.in-Ok.ensures).length-one in (taken-most _ _ h, taken-most _ _ h)

pub slice_bounds-digest-end : goal.slice_bounds-digest-end
slice_bounds-digest-end c = search (rules, length_most _ (seen c.in-Ok.ensures).length-one)

pub slice_bounds-hash-end : goal.slice_bounds-hash-end
slice_bounds-hash-end c = sym (length-take-le c.args.l c.hashed-digest.result (search (rules, length_most _ (seen c.in-Ok.ensures).length-one)))

pub diversified-derived-requires : goal.diversified-derived-requires
diversified-derived-requires c =
    let e : length c.args.fa_key.bytes ≡ 32 = search rules in
    let s = seen c.in-Ok.ensures in
    ap is_key_length (length-take-le _ _ (omega (arith, e, length_most _ s.length-one))) ∙ s.length-one

pub slice_bounds-derived-end : goal.slice_bounds-derived-end
slice_bounds-derived-end c = search (rules, length_most _ (seen c.in-Ok.ensures).length-one)

pub slice_bounds-under-end : goal.slice_bounds-under-end
slice_bounds-under-end c = sym (length-take-le _ _ (search (rules, length_most _ (seen c.in-Ok.ensures).length-one)))

pub lc_of-lc-requires : goal.lc_of-lc-requires
lc_of-lc-requires c = let s = seen c.in-Ok.ensures in (length_most _ s.length-one, s.payload-most)

pub invariant_of-contents : goal.invariant_of-contents
invariant_of-contents c =
    let e : length c.args.rnd2.bytes ≡ 32 = search rules in
    let s = seen c.in-Ok.ensures in
    let h = length_most _ s.length-one in
    let k = length-take-le c.args.l c.diversified-derived.result (search (rules, h)) in
    record {
      key_length = ap is_key_length k ∙ s.length-one;
      rnd2_length = length-take-le _ _ (omega (arith, e, h)) ∙ sym k;
      hash_length = length-take-le c.args.l c.hashed-digest.result (search (rules, h)) ∙ sym k;
    }

pub write_command-requires : goal.write_command-requires
write_command-requires c =
    let s = seen c.in-Ok.ensures in
    let h = length_most _ s.length-one in
    let k = length-take-le c.args.l c.diversified-derived.result (search (rules, h)) in
    let lc = c.lc_of-lc.ensures in
    (rw k s.payload-most, rw k lc, omega (arith, lc, s.room-enough))

pub of-keys_hash-requires : goal.of-keys_hash-requires
of-keys_hash-requires c = taken-most c.args.l c.hashed-digest.result (length_most _ (seen c.in-Ok.ensures).length-one)

pub returns-in-Ok : goal.returns-in-Ok
returns-in-Ok c =
    let a = c.args in
    let k = length-take-le a.l c.diversified-derived.result (search (rules, length_most _ (seen c.in-Ok.ensures).length-one)) in
    let all = command-made a.l a.fa_key a.div_data a.rnd1 a.rnd2 a.mode a.payload.now a.out.now
    c.in-Ok.ensures
    (search rules)
    c.hashed-digest.ensures
    c.diversified-derived.ensures
    c.lc_of-lc.ensures
    (rw k at c.write_command.ensures)
    c.of-keys_hash.ensures in
    record { told = all.0; bytes = all.1 }
