use Rattle.affected_cone.proofs.TreeKept.{places_left}
use Rattle.affected_cone.proofs.trees.same_places.Goals as goal

pub returns : goal.returns
returns c = λ yes.
    places_left c.args.base.now c.args.graph.now c.clock_nodes.result.now c.clock_nodes-2.result.now c.clock_nodes.ensures c.clock_nodes-2.ensures (c.same_numbers.ensures yes)
