use Rattle.std.proofs.Common.{◌≡◌, take}
use Rattle.pin_graph.proofs.tables.place_table.Given as goal

abbrev pub invariant-loop-place : goal.invariant-loop-place
invariant-loop-place l = l.table ≡ take l.place-index l.places
