use Rattle.pin_graph.proofs.PlaceLaws.{ordered_within_as, placed_as}
use Rattle.pin_graph.proofs.OrderLaws.{order_as}
use Rattle.pin_graph.proofs.places.places.Goals as goal

pub places_in-requires-clause-nodes : goal.places_in-requires-clause-nodes
places_in-requires-clause-nodes c =
    (ordered_within_as c.args.n c.as_slice.result.now c.args.levels.now c.in_ok-nodes.nodes.items c.as_slice-2.result.now c.in_ok-nodes.ensures c.as_slice-2.ensures.value).0

pub places_in-requires-clause-few : goal.places_in-requires-clause-few
places_in-requires-clause-few c =
    (ordered_within_as c.args.n c.as_slice.result.now c.args.levels.now c.in_ok-nodes.nodes.items c.as_slice-2.result.now c.in_ok-nodes.ensures c.as_slice-2.ensures.value).1

pub returns-clause-placed : goal.returns-clause-placed
returns-clause-placed c =
    placed_as c.args.n c.args.network.now c.args.ports.now c.args.arcs.now c.args.levels.now c.in_ok-marks.marks c.as_slice.result.now c.in_ok-nodes.nodes.items c.as_slice-2.result.now
    c.in_ok-places.places c.in_ok-marks.ensures c.as_slice.ensures c.in_ok-nodes.ensures c.as_slice-2.ensures.value c.in_ok-places.ensures

pub returns-clause-ordered : goal.returns-clause-ordered
returns-clause-ordered c =
    order_as c.args.n c.as_slice.result.now c.args.levels.now c.in_ok-nodes.nodes.items c.as_slice-2.result.now c.as_slice-3.result.now c.in_ok-places.places c.in_ok-order.order
    c.in_ok-nodes.ensures c.as_slice-2.ensures.value c.as_slice-3.ensures.value c.in_ok-places.ensures c.in_ok-order.ensures
