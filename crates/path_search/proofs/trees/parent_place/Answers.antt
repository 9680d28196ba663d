use Rattle.path_search.proofs.TreeLaws.{first_arc_low}
use Rattle.path_search.proofs.trees.parent_place.Goals as goal

pub place-requires : goal.place-requires
place-requires c = first_arc_low c.args.graph.now c.laws.ensures c.args.node c.requires c.arcs_in.result.now c.arcs_in.ensures _ c.in-len1-up.len_at_least
