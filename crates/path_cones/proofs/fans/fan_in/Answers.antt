use Rattle.path_cones.proofs.ConeParts.{fan_told}
use Rattle.path_cones.proofs.fans.fan_in.Goals as goal

pub returns : goal.returns
returns c =
    fan_told c.args.graph.now c.args.store.now c.args.kind c.args.ends.now c.in_ok-nodes.nodes.keys c.cone_of.result c.requires.graph c.laws.ensures.numbered c.laws.ensures.linked
    c.laws-2.ensures c.in_ok-nodes.ensures.sources c.cone_of.ensures.part c.cone_of.ensures.same
