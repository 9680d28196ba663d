use Rattle.std.proofs.Common.{◌≡◌, take}
use Rattle.std.specs.List.{flat_map}
use Rattle.pin_graph.specs.Placing.{port_nodes}
use Rattle.pin_graph.proofs.places.ports_nodes.Given as goal

abbrev pub invariant-loop-port : goal.invariant-loop-port
invariant-loop-port l = l.nodes ≡ flat_map (port_nodes l.network) (take l.port-index l.ports)
