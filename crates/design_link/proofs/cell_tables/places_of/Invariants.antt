use Rattle.design_link.proofs.CellLaws.{ArePlacesOf}
use Rattle.design_link.proofs.cell_tables.places_of.Given as goal

abbrev pub invariant-loop-place : goal.invariant-loop-place
invariant-loop-place l = ArePlacesOf l.cells l.place l.places.entries
