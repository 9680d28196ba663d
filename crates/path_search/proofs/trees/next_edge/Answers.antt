use Rattle.std.proofs.Common.{◌≡◌, ℕ, length, Option, None, Some, refl, sym, subst, ◌∙◌}
use Rattle.std.specs.Prelude.{slice_index_or}
use Rattle.pin_graph.specs.Graphs.{place_at}
use Rattle.path_search.specs.Trees.{IsEdgeAt}
use Rattle.path_search.proofs.TreeLaws.{some_of, parent_low, edge_of_parent}
use Rattle.path_search.proofs.trees.next_edge.Goals as goal

pub bounds-edges-place : goal.bounds-edges-place
bounds-edges-place c =
    parent_low c.args.graph.now c.args.store.now c.requires.graph c.laws.ensures.numbered c.laws.ensures.linked c.laws-2.ensures c.args.edges.now c.requires.edges c.in_ok-node.node
    (some_of c.args.node c.in_ok-node.node (λ n. place_at c.args.graph.now n ≡ Some (length c.args.edges.now)) c.in_ok-node.was c.requires.node) c.in-Some.place
    (sym c.in-Some.is ∙ c.parent_place.ensures)

pub returns-in-Some : goal.returns-in-Some
returns-in-Some c =
    subst (λ (o : Option ℕ). IsEdgeAt c.args.graph.now o (slice_index_or c.args.edges.now c.in-Some.place None)) (sym c.in_ok-node.was)
    (edge_of_parent c.args.graph.now c.args.store.now c.requires.graph c.laws.ensures.numbered c.laws.ensures.linked c.laws-2.ensures c.args.edges.now c.requires.edges c.in_ok-node.node
    (some_of c.args.node c.in_ok-node.node (λ n. place_at c.args.graph.now n ≡ Some (length c.args.edges.now)) c.in_ok-node.was c.requires.node) c.in-Some.place
    (sym c.in-Some.is ∙ c.parent_place.ensures) (slice_index_or c.args.edges.now c.in-Some.place None) refl)
