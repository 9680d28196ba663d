use Rattle.std.proofs.Common.{◌≡◌, take}
use Rattle.std.specs.List.{filter_map}
use Rattle.pin_graph.specs.Placing.{network_link}
use Rattle.pin_graph.proofs.places.network_links.Given as goal

abbrev pub invariant-loop-arc : goal.invariant-loop-arc
invariant-loop-arc l = l.links ≡ filter_map (network_link l.network) (take l.arc-index l.arcs)
