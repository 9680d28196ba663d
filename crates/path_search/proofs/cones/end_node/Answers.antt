use Rattle.path_search.proofs.PinEnds.{end_there_as, end_below_as, end_numbered_as, end_named_as}
use Rattle.path_search.proofs.cones.end_node.Goals as goal

pub unreachable-requires : goal.unreachable-requires
unreachable-requires c =
    end_there_as c.args.store.now c.laws.ensures.numbered c.laws.ensures.linked c.args.endpoint.now c.requires.endpoint c.args.tran c.args.graph.now c.requires.graph c.in-None.ensures.value

pub returns-clause-below : goal.returns-clause-below
returns-clause-below c =
    end_below_as c.args.store.now c.laws.ensures.numbered c.laws.ensures.linked c.args.endpoint.now c.requires.endpoint c.args.tran c.args.graph.now c.requires.graph c.in-Some.node c.in-Some.ensures.value

pub returns-clause-there : goal.returns-clause-there
returns-clause-there c =
    end_numbered_as c.args.store.now c.laws.ensures.numbered c.laws.ensures.linked c.args.endpoint.now c.requires.endpoint c.args.tran c.args.graph.now c.requires.graph c.in-Some.node c.in-Some.ensures.value

pub returns-clause-node : goal.returns-clause-node
returns-clause-node c =
    end_named_as c.args.store.now c.laws.ensures.numbered c.laws.ensures.linked c.args.endpoint.now c.requires.endpoint c.args.tran c.args.graph.now c.requires.graph c.in-Some.node c.in-Some.ensures.value
