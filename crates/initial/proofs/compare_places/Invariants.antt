-- `initial::compare_places` meets its contract. The invariant is `PlacesDone`: what is left, with what was found so far, is all. Assumes nothing.
use Rattle.initial.proofs.Places.{PlacesDone}
use Rattle.initial.proofs.compare_places.Given as goal

abbrev pub invariant-loop : goal.invariant-loop
invariant-loop l = PlacesDone l.sets l.formed l.d l.initial.p l.n l.p l.counter l.at l.count l.s
