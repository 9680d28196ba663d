use Rattle.std.proofs.Common.{◌≡◌, ◌++◌, map, take}
use Rattle.pin_graph.specs.Joins.{net_links, link_of}
use Rattle.pin_graph.proofs.pin_links.pin_links.Given as goal

abbrev pub invariant-loop-arc : goal.invariant-loop-arc
invariant-loop-arc l = l.links ≡ net_links l.store ++ map link_of (take l.arc-index l.arcs)
