use Rattle.std.proofs.Common.{length, refl}
use Rattle.through_walks.specs.Layers.{arcs_layered}
use Rattle.through_walks.proofs.Building.{parts_more}
use Rattle.through_walks.proofs.layers.list_arcs.Goals as goal

pub loop-node-preserved : goal.loop-node-preserved
loop-node-preserved c =
    parts_more (arcs_layered c.args.stops.now c.args.stages c.args.cone.now) c.loop-node.node (length c.push_node.new.arcs) c.loop-node.starts c.end_part.new.starts
    c.loop-node.arcs c.push_node.new.arcs c.loop-node.invariant c.in_ok-push_node.ensures refl c.in_ok-end_part.ensures
