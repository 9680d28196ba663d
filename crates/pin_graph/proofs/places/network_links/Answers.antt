use Rattle.std.proofs.Common.{get_or}
use Rattle.std.proofs.lemmas.List.{get_or_default}
use Rattle.pin_graph.specs.NodeArcs.{none_arc}
use Rattle.pin_graph.specs.Placing.{network_link}
use Rattle.pin_graph.proofs.ArcLaws.{first_mapped_more}
use Rattle.pin_graph.proofs.places.network_links.Goals as goal

pub loop-arc-preserved : goal.loop-arc-preserved
loop-arc-preserved c =
    first_mapped_more (network_link c.args.network.now) c.loop-arc.links c.add_link.new.links c.args.arcs.now c.loop-arc.arc-index (get_or c.args.arcs.now c.loop-arc.arc-index none_arc)
    c.network_link.result c.loop-arc-test.true (get_or_default c.args.arcs.now c.loop-arc.arc-index none_arc _ c.loop-arc-test.true) c.network_link.ensures c.loop-arc.invariant c.in_ok-add_link.ensures
