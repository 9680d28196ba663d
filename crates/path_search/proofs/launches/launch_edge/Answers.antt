use Rattle.std.proofs.Common.{sym, ap, ◌∙◌}
use Rattle.pin_graph.specs.Graphs.{fan_at}
use Rattle.path_search.specs.Slacks.{start_told}
use Rattle.path_search.proofs.Forms.{start_edge}
use Rattle.path_search.proofs.launches.launch_edge.Goals as goal

pub returns-else-is_network : goal.returns-else-is_network
returns-else-is_network c =
    start_edge c.args.graph.now c.args.store.now c.requires.graph c.laws.ensures.numbered c.laws.ensures.linked c.laws-2.ensures c.args.split c.args.node
    (sym c.is_network.ensures ∙ c.if-is_network.false) c.args.row.now c.start_edge.result
    (c.start_edge.ensures ∙ ap (start_told (fan_at c.args.graph.now.ins c.args.node)) c.times_in.ensures) c.requires.row
