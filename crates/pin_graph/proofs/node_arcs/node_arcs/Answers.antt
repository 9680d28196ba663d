use Rattle.pin_graph.proofs.GraphOf.{library_within}
use Rattle.pin_graph.proofs.node_arcs.node_arcs.Goals as goal

pub add_cell_arcs-requires-clause-within : goal.add_cell_arcs-requires-clause-within
add_cell_arcs-requires-clause-within c =
    library_within c.args.store.now c.laws.ensures.numbered c.laws.ensures.linked c.args.network.now c.args.library.now c.requires.network c.requires.library
