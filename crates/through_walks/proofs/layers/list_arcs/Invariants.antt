use Rattle.through_walks.specs.Layers.{AreParts, arcs_layered}
use Rattle.through_walks.proofs.layers.list_arcs.Given as goal

abbrev pub invariant-loop-node : goal.invariant-loop-node
invariant-loop-node l = AreParts l.node (arcs_layered l.stops l.stages l.cone) l.starts l.arcs
