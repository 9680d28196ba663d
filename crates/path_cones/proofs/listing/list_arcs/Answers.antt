use Rattle.std.proofs.Common.{refl}
use Rattle.path_cones.specs.Delays.{arcs_placed}
use Rattle.path_cones.proofs.PartLaws.{parts_none, placed_more}
use Rattle.path_cones.proofs.listing.list_arcs.Goals as goal

pub loop-node-init : goal.loop-node-init
loop-node-init c =
    parts_none (arcs_placed c.args.sources.now.graph.now c.args.kind c.args.nodes.now.keys) c.in_ok-starts.starts c.in_ok-arcs.arcs
    c.in_ok-starts.ensures c.in_ok-arcs.ensures

pub loop-node-preserved : goal.loop-node-preserved
loop-node-preserved c =
    placed_more c.args.sources.now.graph.now c.args.kind c.args.nodes.now.keys c.as_slice-node-items.result.now c.loop-node.node-index _
    _ c.followed-into.result.now c.loop-node.starts c.end_part.new.starts c.loop-node.arcs c.add_arcs.new.arcs c.loop-node.invariant
    c.as_slice-node-items.ensures.keys c.loop-node-test.true c.followed-into.ensures.value c.in_ok-add_arcs.ensures refl c.in_ok-end_part.ensures
