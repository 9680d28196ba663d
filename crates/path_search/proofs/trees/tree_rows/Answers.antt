use Rattle.std.proofs.Common.{None, refl, arith}
use Rattle.std.specs.Prelude.{slice_index_or}
use Rattle.path_search.proofs.TreeLaws.{nodes_low, rows_more, rows_done}
use Rattle.path_search.proofs.trees.tree_rows.Goals as goal

pub row_at-requires-clause-node : goal.row_at-requires-clause-node
row_at-requires-clause-node g c =
    nodes_low c.args.graph.now c.laws-2.ensures c.args.nodes.now c.requires.nodes c.loop-node.node-index (slice_index_or c.args.nodes.now c.loop-node.node-index None) refl

pub loop-node-preserved : goal.loop-node-preserved
loop-node-preserved g c =
    rows_more c.args.graph.now c.args.store.now c.requires.graph c.laws.ensures.numbered c.laws.ensures.linked c.laws-2.ensures c.requires.range c.args.nodes.now c.requires.nodes
    c.loop-node.edges c.push-in-loop-node.new.self c.loop-node.rows c.push.new.self c.loop-node.node-index c.loop-node.invariant c.next_edge-edge.result c.row_at.result
    c.in_ok-push-2.ensures.ok c.in_ok-push.ensures.ok (slice_index_or c.args.nodes.now c.loop-node.node-index None) refl c.next_edge-edge.ensures c.row_at.ensures

pub returns : goal.returns
returns g c =
    rows_done c.args.graph.now c.args.store.now c.requires.graph c.laws.ensures.numbered c.laws.ensures.linked c.laws-2.ensures c.requires.range c.args.nodes.now c.requires.nodes
    c.loop-node.edges c.loop-node.rows c.loop-node.node-index c.loop-node.invariant
    (let a = c.loop-node-test.false in let b = c.loop-node.auto.node-index-end in omega (arith, a, b))
