use Rattle.netlist_store.proofs.CellLaws.{ArePlacesOf}
use Rattle.netlist_store.proofs.cells.places_of.Given as goal

abbrev pub invariant-loop-place : goal.invariant-loop-place
invariant-loop-place l = ArePlacesOf l.cells l.place l.places.entries
