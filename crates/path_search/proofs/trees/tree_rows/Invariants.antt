use Rattle.path_search.proofs.TreeLaws.{AreTreeRows}
use Rattle.path_search.proofs.trees.tree_rows.Given as goal

abbrev pub invariant-loop-node : goal.invariant-loop-node
invariant-loop-node g l = AreTreeRows l.graph l.nodes l.edges l.rows l.node-index
