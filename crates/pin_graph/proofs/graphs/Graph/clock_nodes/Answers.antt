use Rattle.std.proofs.Common.{◌∙◌, List, ℕ, sym, ap, subst}
use Rattle.pin_graph.specs.declared.tables.Tables.{Tables}
use Rattle.pin_graph.specs.Graphs.{Graphed, AreClockNodes}
use Rattle.pin_graph.specs.Kept.{graph_in}
use Rattle.pin_graph.specs.Placing.{AreInOrder}
use Rattle.pin_graph.proofs.OrderLaws.{clock_nodes_are}
use Rattle.pin_graph.proofs.graphs.Graph.clock_nodes.Goals as goal

pub returns : goal.returns
returns c =
    subst (λ (g : Graphed). AreClockNodes g c.as_slice.result.now) c.self.view_is
    (clock_nodes_are (graph_in c.self.inside.store c.self.inside.tables) c.as_slice.result.now c.self.invariant.graph.places.count
    (subst (λ (os : List ℕ). AreInOrder c.self.inside.tables.places os)
    (sym (c.as_slice.ensures ∙ c.get-2.ensures ∙ ap (λ (t : Tables). t.order) c.get.ensures)) c.self.invariant.tables.ordered))
