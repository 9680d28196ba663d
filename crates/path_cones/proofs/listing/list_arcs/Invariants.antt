use Rattle.path_cones.specs.Delays.{arcs_placed}
use Rattle.path_cones.specs.FanIns.{AreParts}
use Rattle.path_cones.proofs.listing.list_arcs.Given as goal

abbrev pub invariant-loop-node : goal.invariant-loop-node
invariant-loop-node l = AreParts l.node-index (arcs_placed l.sources.graph.now l.kind l.nodes.keys) l.starts l.arcs
