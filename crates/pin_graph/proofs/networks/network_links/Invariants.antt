use Rattle.std.proofs.Common.{◌≡◌, ◌++◌, take}
use Rattle.std.specs.List.{filter_map}
use Rattle.pin_graph.specs.Joins.{net_links}
use Rattle.pin_graph.specs.Networks.{comb_link}
use Rattle.pin_graph.proofs.networks.network_links.Given as goal

abbrev pub invariant-loop-arc : goal.invariant-loop-arc
invariant-loop-arc l = l.links ≡ net_links l.store ++ filter_map comb_link (take l.arc-index l.arcs)
