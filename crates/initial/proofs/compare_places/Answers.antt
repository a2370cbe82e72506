-- `initial::compare_places` meets its contract. The invariant is `PlacesDone`: what is left, with what was found so far, is all. Assumes nothing.
use Prim.Native.Nat.{ℕ}
use mathlib.Core.Path.{◌≡◌, ap, ap₂, ◌∙◌}
use mathlib.Core.Bool.{Bool, ◌&&◌}
use lib.ListN.{length}
use Rattle.std.specs.Prelude.{Result, is_ok}
use Rattle.list.specs.Ber.{place_count, start_of}
use native.Mathlib.Omega.{arith}
use Rattle.initial.specs.Told.{places_found}
use Rattle.initial.proofs.Places.{places-start, places-turn, places-end, places-from, count-slots}
use Rattle.std.proofs.Common.{rules}
use Rattle.initial.proofs.compare_places.Goals as goal

pub loop-init : goal.loop-init
loop-init c = places-start _ _ _ _ _

pub overflow_add-count : goal.overflow_add-count
overflow_add-count c =
    let l : length c.args.sets ≡ 8 = search rules in
    let e : c.compare_slots-f.result.count ≡ 8 = count-slots _ _ _ c.args.sets l c.compare_slots-f.ensures in
    omega (arith, e, c.loop.invariant.few, c.requires)

pub loop-preserved : goal.loop-preserved
loop-preserved c =
    places-turn
    _
    _
    _
    (search rules)
    c.loop-test.true
    c.loop.invariant
    c.step-e.ensures
    (c.both.ensures ∙ ap (λ (x : Bool). c.is_ok-formed.result && x) c.is_some-present.ensures)
    c.id_of.ensures
    c.compare_slots-f.ensures
    c.first_of-at.ensures
    c.place_after-p.ensures

pub returns : goal.returns
returns c =
    let sets = c.args.sets in
    let d = c.args.d.now in
    let n = place_count d in
    let r = c.parse-first.result in
    places-end _ _ _ (search rules) c.loop.invariant
    ∙ ap₂ (λ (f : Bool) (p : ℕ). places_found sets f d p n) c.is_ok-formed.ensures.value c.first_place-p.ensures
    ∙ places-from sets (is_ok r) d (start_of r) (length d) n
    ∙ ap (λ (o : Result ℕ ℕ). places_found sets (is_ok o) d (start_of o) n) c.parse-first.ensures
