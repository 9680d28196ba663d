use Rattle.std.proofs.Common.{List, sym, subst}
use Rattle.pessimism_credit.specs.declared.rows.TreeRow.{TreeRow}
use Rattle.path_search.specs.Trees.{IsClockTree}
use Rattle.affected_cone.proofs.found.with_tree.Goals as goal

pub slacks_over-requires-clause-tree : goal.slacks_over-requires-clause-tree
slacks_over-requires-clause-tree g c κs within = subst (λ (xs : List TreeRow). IsClockTree c.args.graph.now xs) (sym c.get.ensures) c.requires.tree
