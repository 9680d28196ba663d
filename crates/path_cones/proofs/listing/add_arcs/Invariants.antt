use Rattle.std.proofs.Common.{◌≡◌, ◌++◌, take}
use Rattle.std.specs.List.{filter_map}
use Rattle.path_cones.specs.Delays.{walk_arc}
use Rattle.path_cones.proofs.listing.add_arcs.Given as goal

abbrev pub invariant-loop-arc : goal.invariant-loop-arc
invariant-loop-arc l = l.arcs ≡ l.initial.arcs ++ filter_map (walk_arc l.sources.graph.now.stored l.kind l.nodes.keys) (take l.arc-index l.into)
