use Rattle.std.proofs.Common.{◌≡◌, map, take}
use Rattle.path_search.specs.Counts.{counted_edge}
use Rattle.path_search.specs.PinCones.{name_part, name_told, time_part, time_numbered}
use Rattle.path_search.proofs.shown.network_nodes.Given as goal

abbrev pub invariant-loop-node : goal.invariant-loop-node
invariant-loop-node g l = record {
  names : map name_part l.path ≡ map (name_told l.store) (take l.node-index l.nodes);
  times : map time_part l.path ≡ map (time_numbered l.store l.split (counted_edge l.counted)) (take l.node-index l.nodes);
}
