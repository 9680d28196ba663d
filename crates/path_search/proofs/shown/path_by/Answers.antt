use Rattle.std.proofs.Common.{sym, ◌∙◌}
use Rattle.path_search.proofs.shown.path_by.Goals as goal

pub nodes_of-requires-clause-first : goal.nodes_of-requires-clause-first
nodes_of-requires-clause-first g c =
    c.walk_laws.ensures.first c.split_walk-first.result.0 c.split_walk-first.result.1.now (sym c.as_slice.ensures ∙ c.split_walk-first.ensures)

pub nodes_of-requires-clause-walk : goal.nodes_of-requires-clause-walk
nodes_of-requires-clause-walk g c =
    c.walk_laws.ensures.on c.split_walk-first.result.0 c.split_walk-first.result.1.now (sym c.as_slice.ensures ∙ c.split_walk-first.ensures)
