-- `aes::encipher` meets its contract: before turn i the state is that of i - 1 rounds. Assumes nothing.
use Prim.Native.Nat.{ℕ, suc, ◌+◌, ◌-◌}
use mathlib.Core.Path.{◌≡◌, refl, ap, ◌∙◌}
use mathlib.Core.List.{List, []}
use lib.ListN.{length, get_or}
use native.Mathlib.Omega.{arith}
use Rattle.rounds.specs.Columns.{state_of}
use Rattle.rounds.specs.Cipher.{add_round_key, rounds, round, last_round, cipher}
use Rattle.aes.proofs.encipher.Goals as goal

pub loop-i-init : goal.loop-i-init
unfolding rounds
loop-i-init c = refl

pub loop-i-preserved : goal.loop-i-preserved
unfolding rounds
loop-i-preserved c =
    let l = c.loop-i in
    let w = c.args.w.now in
    let z = state_of c.add_round_key-t.result in
    let e : l.i ≡ suc (l.i - 1) = omega arith in
    let f : suc (l.i - 1) ≡ l.i + 1 - 1 = omega arith in
    c.round-t.ensures
    ∙ ap (λ (x : List ℕ). round x (get_or w l.i [])) l.invariant
    ∙ ap (λ (n : ℕ). round (rounds w (l.i - 1) z) (get_or w n [])) e
    ∙ ap (λ (n : ℕ). rounds w n z) f

pub returns : goal.returns
unfolding cipher
returns c =
    let w = c.args.w.now in
    let l = c.loop-i in
    let all : l.i ≡ length w - 1 = omega arith in
    let z = state_of c.add_round_key-t.result in
    let first : z ≡ add_round_key c.args.s (get_or w 0 []) =
    c.add_round_key-t.ensures ∙ ap (λ (x : List ℕ). add_round_key x (get_or w 0 [])) c.columns_of.ensures in
    c.bytes_of.ensures
    ∙ c.last_round.ensures
    ∙ ap (λ (x : List ℕ). last_round x (get_or w (length w - 1) []))
    (l.invariant ∙ ap (λ (n : ℕ). rounds w (n - 1) z) all ∙ ap (rounds w (length w - 1 - 1)) first)
