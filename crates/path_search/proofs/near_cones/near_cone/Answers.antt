use Rattle.path_search.proofs.NearForms.{near_cone_as}
use Rattle.path_search.proofs.near_cones.near_cone.Goals as goal

pub cone_over-requires-clause-fan : goal.cone_over-requires-clause-fan
cone_over-requires-clause-fan g c = c.in_ok-fan.ensures.part

pub returns : goal.returns
returns g c =
    near_cone_as c.args.sources.now.graph.now c.args.sources.now.store.now c.requires.sources.graph c.args.sources.now.kind c.args.endpoint.now c.args.ends c.requires.ends
    c.args.near.now c.requires.near c.as_slice.result.now c.in_ok-fan.fan.nodes c.as_slice.ensures c.in_ok-fan.ensures.among c.cone_over.result c.cone_over.ensures.part
    c.cone_over.ensures.nodes
