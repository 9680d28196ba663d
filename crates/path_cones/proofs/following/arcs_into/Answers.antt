use Rattle.std.proofs.Common.{[]}
use Rattle.pin_graph.specs.NodeArcs.{none_arc}
use Rattle.path_cones.proofs.Followed.{arc_more}
use Rattle.path_cones.proofs.following.arcs_into.Goals as goal

pub loop-arc-preserved : goal.loop-arc-preserved
loop-arc-preserved c =
    arc_more c.args.graph.now.stored c.args.kind c.loop-arc.arcs c.add_arc.new.arcs c.followed-into.result.now c.loop-arc.arc-index none_arc
    c.numbered_arc.result c.loop-arc-test.true c.numbered_arc.ensures c.loop-arc.invariant c.in_ok-add_arc.ensures
