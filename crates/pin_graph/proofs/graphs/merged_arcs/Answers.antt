use Rattle.std.proofs.Common.{◌*◌, ◌∙◌, ap}
use Rattle.pin_graph.proofs.GraphOf.{nodes_within}
use Rattle.pin_graph.proofs.graphs.merged_arcs.Goals as goal

pub merged-requires : goal.merged-requires
merged-requires c =
    nodes_within c.args.store.now c.laws.ensures.numbered c.laws.ensures.linked c.args.pins.now.network c.requires.marked (2 * c.pin_bound.result) c.as_slice-3.result.now
    (ap (λ n. 2 * n) c.pin_bound.ensures.bound)
    (c.as_slice-3.ensures ∙ c.in_ok-raw.ensures)
