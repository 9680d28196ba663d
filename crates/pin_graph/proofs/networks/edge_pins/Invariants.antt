use Rattle.std.proofs.Common.{◌≡◌, take}
use Rattle.std.specs.List.{filter_map}
use Rattle.pin_graph.specs.Networks.{edge_from}
use Rattle.pin_graph.proofs.networks.edge_pins.Given as goal

abbrev pub invariant-loop-arc : goal.invariant-loop-arc
invariant-loop-arc l = l.pins ≡ filter_map edge_from (take l.arc-index l.arcs)
