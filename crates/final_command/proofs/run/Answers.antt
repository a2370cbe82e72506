-- `run` meets its contract: the three parts of its steps make the whole (Assembly, Counts). Assumes nothing.
use mathlib.Core.Path.{◌≡◌, sym, ap, ◌∙◌}
use native.Mathlib.Omega.{arith}
use lib.ListN.{length}
use Rattle.plaid_types.specs.KeyLaws.{lawful-most}
use Rattle.final_command.specs.Final.{fa_key_of, size_of}
use Rattle.final_command.proofs.Keys.{first-within, length-first}
use Rattle.final_command.proofs.Assembly.{final-told, final-bytes}
use Rattle.final_command.proofs.Counts.{text-encipherments, text-expansions, reply-encipherments, reply-expansions, encipherments-most, size-most}
use Rattle.std.proofs.Common.{rules}
use Rattle.final_command.proofs.run.Goals as goal

pub slice_bounds-digest-end : goal.slice_bounds-digest-end
slice_bounds-digest-end c =
    let long : length c.open_text-o.result.digest ≡ 32 = search (rules, c.open_text-o.type_inv) in
    first-within c.args.card.key_length c.open_text-o.result.digest c.lawful-l.ensures long

pub slice_bounds-accepts-end : goal.slice_bounds-accepts-end
slice_bounds-accepts-end c =
    let long : length c.open_text-o.result.digest ≡ 32 = search (rules, c.open_text-o.type_inv) in
    sym (length-first c.args.card.key_length c.open_text-o.result.digest c.lawful-l.ensures long)

pub accepts-accepted-requires : goal.accepts-accepted-requires
accepts-accepted-requires c =
    let n = c.args.card.key_length in
    let long : length c.open_text-o.result.digest ≡ 32 = search (rules, c.open_text-o.type_inv) in
    (c.requires.0, omega (arith, length-first n c.open_text-o.result.digest c.lawful-l.ensures long, c.lawful-l.ensures, lawful-most n))

pub overflow_add-result : goal.overflow_add-result
overflow_add-result c =
    let a = c.args in
    let n : c.reply-s.result.encipherments ≡ size_of a.card = ap (λ r. r.encipherments) c.reply-s.ensures.told ∙ reply-encipherments _ _ _ in
    omega (arith, ap (λ r. r.encipherments) c.open_text-o.ensures ∙ text-encipherments a.card a.d.now, encipherments-most (length (fa_key_of a.card)), size-most a.card)

pub overflow_add-result-2 : goal.overflow_add-result-2
overflow_add-result-2 c =
    let a = c.args in
    let n : c.reply-s.result.expansions ≡ 1 = ap (λ r. r.expansions) c.reply-s.ensures.told ∙ reply-expansions _ _ _ in
    omega (arith, ap (λ r. r.expansions) c.open_text-o.ensures ∙ text-expansions a.card a.d.now)

pub returns : goal.returns
returns c =
    let a = c.args in
    record { told = final-told a.card a.d.now a.fresh.now _ _ _ _ _ _ _ c.open_text-o.ensures c.lawful-l.ensures c.op_mode.ensures c.compare_modes-f.ensures c.accepts-accepted.ensures c.mode_at-mode.ensures c.reply-s.ensures.told; bytes = final-bytes a.card a.d.now a.fresh.now _ _ _ _ _ _ c.reply-s.result c.open_text-o.ensures c.lawful-l.ensures c.op_mode.ensures c.compare_modes-f.ensures c.accepts-accepted.ensures c.mode_at-mode.ensures a.out.now c.reply-s.new.out c.reply-s.ensures.bytes }
