use Rattle.std.proofs.Common.{map, take}
use Rattle.netlist_store.specs.Numbering.{number_of}
use Rattle.through_paths.specs.Passing.{AreStops}
use Rattle.through_paths.proofs.stops.stops_of.Given as goal

abbrev pub invariant-loop-pin : goal.invariant-loop-pin
invariant-loop-pin l = AreStops l.nodes (map (number_of l.graph.stored.pins) (take l.pin-index l.pins)) l.stops
