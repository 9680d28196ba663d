use Rattle.std.proofs.Common.{◌≡◌, take}
use Rattle.std.specs.List.{filter_map}
use Rattle.path_cones.specs.Following.{numbered_arc}
use Rattle.path_cones.proofs.following.arcs_into.Given as goal

abbrev pub invariant-loop-arc : goal.invariant-loop-arc
invariant-loop-arc l = l.arcs ≡ filter_map (numbered_arc l.graph.stored l.kind) (take l.arc-index l.into)
