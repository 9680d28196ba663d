use Rattle.std.proofs.Common.{◌*◌, ℕ, List, ap, subst}
use Rattle.pin_graph.specs.declared.arcs.GraphArc.{GraphArc}
use Rattle.pin_graph.specs.NodeGraphs.{IsFound, AreNodeTables}
use Rattle.pin_graph.proofs.KeptLaws.{kept_found}
use Rattle.pin_graph.proofs.graphs.graph_tables.Goals as goal

pub returns : goal.returns
returns c =
    kept_found c.args.store.now c.laws.ensures.numbered c.laws.ensures.linked c.requires.fault c.args.pins.now c.requires.pins c.in_ok-arcs.arcs c.in_ok-arcs.ensures
    c.in_ok-found.found
    (subst (λ (xs : List GraphArc). IsFound c.args.store.now c.args.pins.now.network xs c.in_ok-found.found) c.as_slice.ensures c.in_ok-found.ensures)
    c.requires.tree c.in_ok-made.made c.in_ok-made.ensures c.in_ok-nodes.nodes
    (subst (λ (n : ℕ). AreNodeTables n c.in_ok-found.found c.in_ok-nodes.nodes) (ap (λ n. 2 * n) c.pin_bound.ensures.bound) c.in_ok-nodes.ensures)
    c.tables_of.result c.tables_of.ensures
