use Rattle.pin_graph.proofs.LevelLaws.{links_within_as}
use Rattle.pin_graph.proofs.node_levels.node_levels.Goals as goal

pub levels-requires : goal.levels-requires
levels-requires c = links_within_as c.args.n c.args.arcs.now c.in_ok-links.links c.as_slice.result.now c.requires.within c.in_ok-links.ensures c.as_slice.ensures
