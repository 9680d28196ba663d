use Rattle.path_search.proofs.PinEnds.{fan_low_as, pin_cone_as}
use Rattle.path_search.proofs.cones.cone_over.Goals as goal

pub offers-requires-clause-nodes : goal.offers-requires-clause-nodes
offers-requires-clause-nodes g c =
    fan_low_as c.args.sources.now.graph.now c.args.sources.now.kind c.args.ends.rise c.args.ends.fall c.args.fan c.requires.fan
    c.args.sources.now.store.now c.requires.sources.graph c.as_slice-nodes.result.now c.as_slice-nodes.ensures

pub returns-clause-part : goal.returns-clause-part
returns-clause-part g c =
    pin_cone_as c.args.sources.now.graph.now c.args.sources.now.kind c.args.ends.rise c.args.ends.fall c.args.fan c.requires.fan
    c.args.sources.now.store.now c.requires.sources.graph c.args.endpoint.now c.requires.ends.rise c.requires.ends.fall
    c.as_slice-nodes.result.now c.as_slice-nodes.ensures c.as_slice-nodes.result.now c.as_slice-nodes.ensures
    c.walk_end-first.result c.walk_end-second.result c.walk_end-first.ensures c.walk_end-second.ensures c.cone_with.result c.cone_with.ensures.nodes c.cone_with.ensures.cone

pub returns-clause-nodes : goal.returns-clause-nodes
returns-clause-nodes g c = c.cone_with.ensures.nodes
