use Rattle.pin_graph.specs.Placing.{AreInPlace}
use Rattle.pin_graph.proofs.places.places_in.Given as goal

abbrev pub invariant-loop-place : goal.invariant-loop-place
invariant-loop-place l = AreInPlace l.n l.nodes l.place l.places.items
