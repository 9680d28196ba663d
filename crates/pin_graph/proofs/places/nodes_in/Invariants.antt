use Rattle.std.proofs.Common.{◌≡◌, map, take}
use Rattle.pin_graph.specs.Placing.{node_of}
use Rattle.pin_graph.proofs.places.nodes_in.Given as goal

abbrev pub invariant-loop-at : goal.invariant-loop-at
invariant-loop-at l = l.found ≡ map node_of (take l.at-index l.nodes)
