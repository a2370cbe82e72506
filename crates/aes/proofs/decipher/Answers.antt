-- `aes::decipher` meets its contract: what is left to do of the state is what was left at the start. Assumes nothing.
use Prim.Native.Nat.{ℕ, suc, ◌-◌}
use mathlib.Core.Path.{◌≡◌, ap, ◌∙◌, sym}
use mathlib.Core.List.{List, []}
use lib.ListN.{length, get_or}
use native.Mathlib.Omega.{arith}
use Rattle.rounds.specs.Columns.{state_of}
use Rattle.rounds.specs.Cipher.{add_round_key}
use Rattle.rounds.specs.InvCipher.{inv_rounds, inv_round, inv_last_round, inv_cipher}
use Rattle.aes.proofs.decipher.Goals as goal

pub loop-i-preserved : goal.loop-i-preserved
unfolding inv_rounds
loop-i-preserved c =
    let l = c.loop-i in
    let w = c.args.w.now in
    let e : l.i - 1 ≡ suc (l.i - 1 - 1) = omega arith in
    ap (inv_rounds w (l.i - 1 - 1))
    (c.inv_round-t.ensures ∙ ap (λ (n : ℕ). inv_round (state_of l.t) (get_or w n [])) e)
    ∙ ap (λ (n : ℕ). inv_rounds w n (state_of l.t)) (sym e)
    ∙ l.invariant

pub returns : goal.returns
unfolding inv_cipher inv_rounds
returns c =
    let w = c.args.w.now in
    let l = c.loop-i in
    let none : 0 ≡ l.i - 1 = omega arith in
    let first : state_of c.add_round_key-t.result ≡ add_round_key c.args.s (get_or w (length w - 1) []) =
    c.add_round_key-t.ensures ∙ ap (λ (x : List ℕ). add_round_key x (get_or w (length w - 1) [])) c.columns_of.ensures in
    c.bytes_of.ensures
    ∙ c.inv_last_round.ensures
    ∙ ap (λ (x : List ℕ). inv_last_round x (get_or w 0 []))
    (ap (λ (n : ℕ). inv_rounds w n (state_of l.t)) none ∙ l.invariant ∙ ap (inv_rounds w (length w - 1 - 1)) first)
