use Rattle.std.proofs.Common.{List, sym, subst}
use Rattle.pessimism_credit.specs.declared.rows.TreeRow.{TreeRow}
use Rattle.path_search.specs.Trees.{IsClockTree}
use Rattle.affected_cone.proofs.updating.with_tree.Goals as goal

pub ends_renewed-requires-clause-search : goal.ends_renewed-requires-clause-search
ends_renewed-requires-clause-search g c κs within = record {
  sound = c.requires.sound;
  graph = c.requires.graph;
  fine = c.requires.fine;
  rows = c.requires.arrivals.rows;
  tables = c.requires.arrivals.tables;
  delays = c.requires.arrivals.delays;
  tree = subst (λ (xs : List TreeRow). IsClockTree c.args.graph.now xs) (sym c.get.ensures) c.requires.tree;
}
