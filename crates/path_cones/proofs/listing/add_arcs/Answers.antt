use Rattle.pin_graph.specs.NodeArcs.{none_arc}
use Rattle.path_cones.proofs.PartLaws.{walked_more}
use Rattle.path_cones.proofs.listing.add_arcs.Goals as goal

pub loop-arc-preserved : goal.loop-arc-preserved
loop-arc-preserved c =
    walked_more c.args.sources.now.graph.now.stored c.args.kind c.args.nodes.now.keys c.args.arcs.now c.loop-arc.arcs c.add_arc.new.arcs
    c.args.into.now c.loop-arc.arc-index none_arc c.walk_arc-walked.result c.loop-arc-test.true c.walk_arc-walked.ensures c.loop-arc.invariant c.in_ok-add_arc.ensures
