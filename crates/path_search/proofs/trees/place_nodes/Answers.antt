use Rattle.std.proofs.Common.{map, Some, ap, ◌∙◌}
use Rattle.std.proofs.lemmas.List.{take_all}
use Rattle.path_search.proofs.TreeLaws.{place_nodes_are}
use Rattle.path_search.proofs.trees.place_nodes.Goals as goal

pub returns : goal.returns
returns c =
    place_nodes_are c.args.graph.now c.clock_nodes-placed.result.now c.loop-node.nodes c.clock_nodes-placed.ensures
    (c.loop-node.invariant ∙ ap (map Some) (take_all c.loop-node.node-index c.clock_nodes-placed.result.now c.loop-node-test.false))
