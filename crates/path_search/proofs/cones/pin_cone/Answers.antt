use Rattle.path_search.proofs.PinEnds.{whole_as}
use Rattle.path_search.proofs.cones.pin_cone.Goals as goal

pub cone_over-requires-clause-fan : goal.cone_over-requires-clause-fan
cone_over-requires-clause-fan g c = c.in_ok-fan.ensures.part

pub returns : goal.returns
returns g c =
    whole_as c.args.sources.now.graph.now c.args.sources.now.kind c.args.endpoint.now c.in_ok-fan.fan c.in_ok-fan.ensures.closed c.cone_over.result c.cone_over.ensures.part
    c.cone_over.ensures.nodes
